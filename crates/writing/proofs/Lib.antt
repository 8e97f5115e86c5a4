-- What the tested rules give, the bytes of what tables mean as the two halves that are put, and what writing answers and leaves.
pub mod Rows
pub mod Joined
pub mod Counted
pub mod Answers
