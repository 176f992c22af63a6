-- what the public contracts rest on
pub mod Data
pub mod Seen
pub mod Sorting
pub mod Rows
pub mod Fitting
pub mod Aggregating
pub mod Listing
pub mod Laws
-- what the functions inside the crate promise each other
pub mod Code
pub mod SeenKept
pub mod Bounds
