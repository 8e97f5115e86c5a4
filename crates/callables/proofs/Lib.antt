-- The laws that the proofs of this crate cite.
pub mod Widths
