-- For callers: a read behind another.
pub mod Sequence
