-- what the public contracts rest on
pub mod Names
pub mod Scalars
pub mod Lookup
pub mod Faults
pub mod Fields
pub mod Types
pub mod Keywords
pub mod Reading
pub mod Brackets
pub mod Forms
pub mod Lines
-- what the functions inside the crate promise each other
pub mod Outcome
