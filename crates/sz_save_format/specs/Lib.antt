-- what the public contracts rest on
pub mod Names
pub mod Types
pub mod Declarations
pub mod Entries
pub mod Saved
pub mod Laws
pub mod Decoding
pub mod DecodingRows
-- what the functions inside the crate promise each other
pub mod Code
pub mod Fields
pub mod Short
