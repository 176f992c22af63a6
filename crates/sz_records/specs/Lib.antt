-- what the public contracts rest on
pub mod Ends
pub mod Cutting
pub mod Behind
pub mod Steps
pub mod Fed
pub mod Shards
-- what the functions inside the crate promise each other
pub mod Fronts
pub mod Laid
