-- The words of the promises about writing.
pub mod Words
