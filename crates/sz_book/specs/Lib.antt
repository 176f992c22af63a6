-- what the public contracts rest on
pub mod Lanes
pub mod Answers
pub mod Cores
pub mod Held
pub mod Books
