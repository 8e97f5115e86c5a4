-- What the exported functions answer and leave.
pub mod Numbers
pub mod Positions
pub mod Words
pub mod Heading
