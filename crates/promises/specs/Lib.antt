-- The words of the promises.
pub mod Words
pub mod Back
