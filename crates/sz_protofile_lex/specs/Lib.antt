-- what the public contracts rest on
pub mod Lexemes
pub mod Tokens
pub mod Answers
