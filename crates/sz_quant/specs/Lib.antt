-- what the public contracts rest on
pub mod Parts
pub mod Fitting
pub mod Seen
