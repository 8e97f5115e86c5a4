-- The mathematics of the reads and of put, over plain numbers and lists.
pub mod Groups
pub mod Halves
pub mod Shortest
pub mod Word
pub mod Squeeze
pub mod Ended
pub mod Payloads
pub mod Read
