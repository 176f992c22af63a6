-- what the tests promise each other
pub mod Ready
