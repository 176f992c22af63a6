-- what the public contracts rest on
pub mod Spelling
pub mod Laws
pub mod Lists
pub mod Digest
-- what the functions inside the crate promise each other
pub mod Reading
pub mod Comparing
pub mod Rank
pub mod Storage
-- what the ghost members of types rest on
pub mod Kept
pub mod OneSpelling
