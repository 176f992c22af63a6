-- what the public contracts rest on
pub mod Marked
pub mod Expressions
pub mod Endings
pub mod Search
pub mod Statements
pub mod Programs
