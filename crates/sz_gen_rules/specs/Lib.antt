-- the code of expressions
pub mod Tables
pub mod ExpressionCode
pub mod Named
pub mod Runs
pub mod Example
-- the code of statements
pub mod FreeLines
pub mod SearchCode
pub mod StatementCode
pub mod NamedStatements
pub mod Backward
-- the code of programs
pub mod ProgramCode
pub mod Simulates
pub mod Compiled
