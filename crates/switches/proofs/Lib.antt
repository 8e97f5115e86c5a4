-- The laws of this crate: one switch behind its cases and ranges, and the loop over switches.
pub mod Places
pub mod Standing
pub mod Switching
