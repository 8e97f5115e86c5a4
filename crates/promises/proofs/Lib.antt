-- The demands, and the laws that they rest on.
pub mod Tables
pub mod Fits
pub mod Front
pub mod Back
pub mod Demands
