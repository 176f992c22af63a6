-- what the public contracts rest on
pub mod States
pub mod Rows
pub mod Covering
pub mod Runs
pub mod WellFormed
-- what the functions inside the crate promise each other
pub mod Example
