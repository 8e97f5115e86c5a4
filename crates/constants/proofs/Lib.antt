-- The laws of this crate: runs of bytes and bits, reads into the table, the parts of a constant joined, and the loop over items.
pub mod Taken
pub mod Tags
pub mod Headed
pub mod Keeping
pub mod Joined
pub mod Plain
pub mod Ends
pub mod Whole
pub mod Stored
pub mod Going
pub mod Tops
