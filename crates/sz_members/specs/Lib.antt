-- what the public contracts rest on
pub mod Data
-- what the functions inside the crate promise each other
pub mod Repeats
pub mod Showing
pub mod Kept
pub mod Code
