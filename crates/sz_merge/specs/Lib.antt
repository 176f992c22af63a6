-- what the public contracts rest on
pub mod JoiningLaws
pub mod Runs
pub mod Together
pub mod Files
pub mod Laws
pub mod Groups
-- what the functions inside the crate promise each other
pub mod Reading
