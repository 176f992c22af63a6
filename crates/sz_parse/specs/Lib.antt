-- what the public contracts rest on
pub mod Statements
pub mod Program
pub mod Parsed
-- what the functions inside the crate promise each other
pub mod ReadingTables
pub mod ReadingStatements
