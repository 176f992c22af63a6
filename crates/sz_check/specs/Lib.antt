-- what the public contracts rest on
pub mod Answering
pub mod RoundTypes
-- what the functions inside the crate promise each other
pub mod Targets
pub mod Quantified
pub mod Later
pub mod Top
pub mod Functions
pub mod FunctionParts
