-- What the inner steps of the code say; what a position table is stands in `position_table`.
pub mod Steps
pub mod Skim
pub mod Passes
