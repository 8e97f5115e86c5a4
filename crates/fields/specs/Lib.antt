-- What the answers of this crate say, as outcomes of the definition.
pub mod Answers
