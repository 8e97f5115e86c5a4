-- What UTF-8 is: the RFC's syntax, the test by it, and what the code's states and tables mean.
pub mod Syntax
pub mod Check
pub mod Machine
