-- What a file means, which meanings are well-formed, and the bytes they are written as.
pub mod Meaning
pub mod Put
pub mod WellFormed
pub mod Strip
