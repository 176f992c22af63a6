-- what the public contracts rest on
pub mod Known
-- what the functions inside the crate promise each other
pub mod Rule
pub mod Changes
pub mod Moves
