-- What is read always has: the law, and where the sections of an accepted file were got.
pub mod Leaves
pub mod Accepted
