pub mod EmitCosts
pub mod WorkedTrees
mod WorkedExamples
