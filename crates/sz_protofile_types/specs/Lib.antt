-- what the public contracts rest on
pub mod Sound
pub mod Readings
pub mod Named
pub mod Ranks
pub mod Components
pub mod Code
-- what the functions inside the crate promise each other
pub mod Places
pub mod Search
pub mod Making
pub mod Holding
