-- what the public contracts rest on
pub mod Cuts
pub mod Parts
pub mod Answers
pub mod Promise
-- what the functions inside the crate promise each other
pub mod Reading
