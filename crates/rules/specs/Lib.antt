-- Words that fit whatever a tag is, what rows are asked at once, and what a walk over them answers.
pub mod Fits
pub mod Once
pub mod Walks
