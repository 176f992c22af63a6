-- what the public contracts rest on
pub mod Yields
pub mod Shards
pub mod Attempts
pub mod Ends
-- what the functions inside the crate promise each other
pub mod ShardRuns
