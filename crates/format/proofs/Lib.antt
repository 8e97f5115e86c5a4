-- What the definition of the file has: the prefix law, and what it says of torn copies.
pub mod Prefix
pub mod Torn
