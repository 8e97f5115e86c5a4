-- The laws that the proofs of the sections cite.
pub mod Texts
pub mod Taken
pub mod Three
pub mod Ending
