-- What the proofs of this crate share.
pub mod Tags
pub mod Words
