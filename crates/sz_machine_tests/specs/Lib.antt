-- what the tests rest on
pub mod Example
pub mod Sharing
pub mod Counting
