-- what the public contracts rest on
pub mod Joined
pub mod Saving
pub mod Reading
-- what the functions inside the crate promise each other
pub mod Walk
pub mod Stopped
pub mod Taken
pub mod Spelled
