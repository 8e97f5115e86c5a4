-- The laws of UTF-8 that other crates cite (Laws, Agrees), the RFC's examples, and what the proofs of the code share.
pub mod Laws
pub mod Agrees
pub mod Examples
pub mod Ascii
pub mod Short
pub mod Tables
pub mod Walks
