-- The parts that a constant is read in, and the contract of a read into the table.
pub mod Parts
pub mod Kept
