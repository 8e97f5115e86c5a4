-- The lemmas that the proofs of the functions cite: on plain numbers, and on lists of bytes.
pub mod Halves
pub mod Bytes
