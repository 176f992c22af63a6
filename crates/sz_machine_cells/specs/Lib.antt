-- what the public contracts rest on
pub mod Nested
pub mod Insides
pub mod Cells
pub mod Results
pub mod MapKeys
pub mod Candidates
pub mod Calls
pub mod Storing
-- what the functions inside the crate promise each other
pub mod Waiting
pub mod PairViews
