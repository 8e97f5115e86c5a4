-- The laws that the functions' proofs cite, over plain numbers and lists.
pub mod Shorts
pub mod Walks
pub mod Puts
pub mod Sites
