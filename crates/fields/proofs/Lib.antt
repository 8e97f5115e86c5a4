-- Runs of bytes: when they are taken, and a run that is cut at the end.
pub mod Runs
pub mod Bits
