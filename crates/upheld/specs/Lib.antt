-- What the types of slices and numbers give, and tables that have the places.
pub mod Native
