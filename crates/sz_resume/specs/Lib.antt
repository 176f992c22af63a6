-- what the public contracts rest on
pub mod Standing
pub mod Stops
pub mod Runs
pub mod Joining
pub mod Resumable
-- what the functions inside the crate promise each other
pub mod Halts
pub mod Entries
pub mod Turns
