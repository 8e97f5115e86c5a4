-- What the contracts of this crate cite.
pub mod Puts
pub mod Ways
pub mod Headers
pub mod Shares
pub mod Constants
pub mod Tags
