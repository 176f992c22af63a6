-- what the public contracts rest on
pub mod Acting
-- what the functions inside the crate promise each other
pub mod Emitting
pub mod Storing
