-- What a parser is and what files are built from; then the two laws that every one of them has.
pub mod Outcome
pub mod Read
pub mod Combinators
pub mod Number
pub mod Prefix
pub mod RoundTrip
pub mod Example
