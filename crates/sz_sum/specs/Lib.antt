-- what the public contracts rest on
pub mod Data
-- what the functions inside the crate promise each other
pub mod Storage
pub mod Code
pub mod Kept
