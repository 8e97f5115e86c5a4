-- The definition of the file: what it holds, and how it is read, section by section.
pub mod Artifact
pub mod File
pub mod Rows
