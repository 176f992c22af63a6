-- what the public contracts rest on
pub mod Answers
-- what the functions inside the crate promise each other
pub mod Writing
