-- The way back is the inverse on records and constants that fit, and what a read gives fits.
pub mod Inverse
pub mod Growing
pub mod Fitting
pub mod Stored
