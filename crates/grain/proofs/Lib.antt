-- What the proofs of the exported functions share.
pub mod Halves
pub mod Telling
pub mod Written
