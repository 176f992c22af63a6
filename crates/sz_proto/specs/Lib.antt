-- what the public contracts rest on
pub mod Payloads
pub mod Elements
pub mod Messages
pub mod Laws
-- what the functions inside the crate promise each other
pub mod Found
