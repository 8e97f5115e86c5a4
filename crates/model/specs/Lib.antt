-- The definition of writing: what is lent, the rules, what tables mean, what is answered and left.
pub mod Lent
pub mod Told
pub mod Rules
pub mod Tables
pub mod Written
