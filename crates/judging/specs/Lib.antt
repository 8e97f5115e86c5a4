-- What judging answers, and what the rules that were tested before say.
pub mod Judged
pub mod Standing
