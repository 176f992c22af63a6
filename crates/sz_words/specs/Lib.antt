-- what the public contracts rest on
pub mod Texts
pub mod Lists
pub mod Parts
pub mod Flags
pub mod Settings
pub mod Bounds
-- what the functions inside the crate promise each other
pub mod Dashes
pub mod Asked
pub mod Matches
