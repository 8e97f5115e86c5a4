-- What is lent back.
pub mod Lending
