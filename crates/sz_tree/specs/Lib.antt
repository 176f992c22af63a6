-- what the public contracts rest on
pub mod Names
pub mod Expressions
pub mod Types
pub mod Statements
pub mod View
