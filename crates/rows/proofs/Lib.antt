-- Words, what a word taken modulo its width gives back, and the rows of a table.
pub mod Numbers
pub mod Chunks
