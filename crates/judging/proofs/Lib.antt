-- Tests that hold, rows that are there, and what one look at each table says of the ten rules.
pub mod Kept
pub mod Rows
pub mod Once
