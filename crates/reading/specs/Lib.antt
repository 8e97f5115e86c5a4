-- What the reader answers and leaves, and what the sections leave before the tables are cleared.
pub mod Places
pub mod Answer
pub mod Sections
