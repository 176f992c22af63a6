-- what the public contracts rest on
pub mod Outcome
-- what the functions inside the crate promise each other
pub mod Seen
pub mod Hashes
