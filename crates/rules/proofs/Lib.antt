-- The laws of this crate: tests that are joined, what is owed of a list of rows, and one law for each loop
-- over rows: the walk that pays what is owed, the entries of a map and of all maps, shares, the ends of the names, and depth.
pub mod Both
pub mod Standing
pub mod Owed
pub mod Walking
pub mod Entering
pub mod Keying
pub mod Sharing
pub mod Ending
pub mod Reaching
