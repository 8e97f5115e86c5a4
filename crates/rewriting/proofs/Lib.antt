-- What a call of the writer says, and the demands.
pub mod Sounds
pub mod Demands
