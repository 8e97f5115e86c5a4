-- What is cited of a refusal: its number and its two values.
pub mod Numbers
