-- what the public contracts rest on
pub mod Types
pub mod Laws
pub mod Data
pub mod Seen
pub mod Same
pub mod Kinds
pub mod Conversions
pub mod Numerals
pub mod Rows
pub mod Tables
pub mod SeenTables
-- what the functions inside the crate promise each other
pub mod Code
pub mod FieldLists
