-- names, types, and the answers of a judgement
pub mod Causes
pub mod Refusals
pub mod Names
pub mod JudgingTypes
pub mod Scene
-- expressions
pub mod Agreeing
pub mod JudgingCalls
pub mod JudgingComposites
pub mod JudgingParts
pub mod JudgingOperators
pub mod JudgingExpressions
-- statements, and whole programs
pub mod Scenes
pub mod JudgingPaths
pub mod JudgingSimple
pub mod EmittingTrees
pub mod Quantifying
pub mod JudgingStatements
pub mod JudgingPrograms
-- a small program
pub mod Example
-- programs with types round them, and the statements that declare such types
pub mod JudgingWithTypes
pub mod TypeStatements
