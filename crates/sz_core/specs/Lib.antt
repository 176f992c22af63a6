-- what the public contracts rest on
pub mod Nodes
pub mod Statements
pub mod Programs
pub mod Emitting
pub mod WellFormed
pub mod Typing
pub mod Sound
pub mod View
-- what the functions inside the crate promise each other
pub mod OperatorCode
pub mod NodeCode
pub mod StatementCode
pub mod ProgramCode
pub mod Example
