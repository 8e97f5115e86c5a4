-- What the answers of this crate say.
pub mod Answers
