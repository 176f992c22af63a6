-- what the public contracts rest on
pub mod Operators
pub mod Conversions
pub mod Places
pub mod Predeclared
pub mod Types
pub mod Letters
pub mod Views
