-- The laws of the combinators, each proved once, and what follows for any parser that has them.
pub mod Outcome
pub mod Prefix
pub mod Torn
pub mod RoundTrip
pub mod Number
pub mod Shortest
pub mod Written
pub mod Example
pub mod Read
