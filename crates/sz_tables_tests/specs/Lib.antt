-- what the tests rest on
pub mod Pairs
