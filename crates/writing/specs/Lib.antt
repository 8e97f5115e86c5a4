-- What the rules say of the tables that are put, and the bytes in two halves.
pub mod Ready
pub mod Halves
