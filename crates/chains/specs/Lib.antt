-- The parts of a step that functions of their own read.
pub mod Answers
