-- what the public contracts rest on
pub mod Names
pub mod Blocks
pub mod Sight
-- what the functions inside the crate promise each other
pub mod Chain
