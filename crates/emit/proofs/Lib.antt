-- The laws of putting: one thing behind another, a text, and a list of records.
pub mod Laws
pub mod Groups
pub mod Texts
pub mod Listing
pub mod Sharing
pub mod Stripping
pub mod Fields
pub mod Switching
pub mod Tags
pub mod Nodes
pub mod Growing
pub mod Standing
