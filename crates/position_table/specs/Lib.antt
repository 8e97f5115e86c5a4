-- Position tables as document 01 has them: how they are read, checked and resolved, and what is encoded.
pub mod Table
pub mod Encode
