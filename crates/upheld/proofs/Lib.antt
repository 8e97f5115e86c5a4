-- Tables that keep the rules mean something well-formed.
pub mod Tests
pub mod Rows
pub mod Fitting
pub mod Shares
pub mod Heads
pub mod Constants
pub mod Told
pub mod Upheld
