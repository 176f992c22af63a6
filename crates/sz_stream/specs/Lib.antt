-- what the public contracts rest on
pub mod Inputs
pub mod Intakes
pub mod InputRuns
