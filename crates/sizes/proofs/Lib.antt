-- The laws of counting: the sizes of numbers, one thing behind another, a loop over rows, and items apart from their owners.
pub mod Laws
pub mod Flat
pub mod Apart
pub mod Steps
pub mod Records
pub mod Tags
pub mod Grown
