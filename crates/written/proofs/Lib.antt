-- What is written is read back.
pub mod Parts
pub mod Lists
pub mod Opening
pub mod Chains
pub mod Switches
pub mod Callables
pub mod Ending
pub mod Constants
pub mod Whole
pub mod Stripped
pub mod Leaving
pub mod Trees
pub mod Accepted
pub mod Spending
pub mod Shorter
pub mod Again
pub mod Least
