-- what the public contracts rest on
pub mod Plan
pub mod Machine
pub mod History
pub mod Orderly
pub mod Counting
