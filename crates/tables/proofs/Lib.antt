-- The laws of tables: runs of stores, and the loop that reads records into one.
pub mod Stores
pub mod Listing
pub mod Filling
pub mod Nesting
pub mod Fitting
pub mod Answers
pub mod Rows
pub mod Reading
pub mod Both
pub mod Got
