-- what the public contracts rest on
pub mod Tables
pub mod Totals
pub mod Laws
pub mod Weights
pub mod Short
pub mod States
pub mod Origin
pub mod Typed
pub mod Bounded
-- what the functions inside the crate promise each other
pub mod Aggregates
pub mod Entries
pub mod Joining
pub mod Parts
pub mod Dealing
pub mod OneTable
pub mod Merging
pub mod Code
