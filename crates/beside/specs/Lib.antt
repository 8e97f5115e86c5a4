-- What the exported functions answer and leave.
pub mod Beside
