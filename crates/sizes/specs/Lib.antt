-- What the contracts of this crate cite.
pub mod Counts
pub mod Own
pub mod Items
