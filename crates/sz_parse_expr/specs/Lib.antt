-- what the public contracts rest on
pub mod Tokens
pub mod Expressions
pub mod Types
pub mod Reading
pub mod ReadingExpressions
pub mod ReadingTypes
pub mod ReadingParts
pub mod Outcome
