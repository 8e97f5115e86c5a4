-- What was read, lent back, means what was read and keeps the rules.
pub mod Texts
pub mod Lists
pub mod Means
pub mod Records
pub mod Held
pub mod Trees
pub mod Rules
pub mod Returned
