-- what the public contracts rest on
pub mod Data
pub mod Seen
pub mod Order
pub mod Weight
pub mod Maps
pub mod Laws
pub mod Texts
pub mod Characters
-- what the functions inside the crate promise each other
pub mod Code
pub mod Falls
pub mod Total
pub mod Places
pub mod Runs
pub mod Forms
pub mod Hashing
