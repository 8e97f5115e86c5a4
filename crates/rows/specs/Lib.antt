-- The way back from a row to its record and from the constants' rows to their tree, and the records for which it is one.
pub mod Back
pub mod Tree
pub mod Fits
pub mod Given
