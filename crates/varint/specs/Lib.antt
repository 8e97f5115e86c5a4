-- What the contracts of this crate cite, beside the grammar's own definitions.
pub mod Answers
pub mod Holding
pub mod Word
pub mod Answered
