-- what the public contracts rest on
pub mod Classes
pub mod Words
pub mod Signs
pub mod Numbers
pub mod Literals
pub mod Tokens
pub mod Lexed
pub mod Laws
-- what the functions inside the crate promise each other
pub mod Lookup
pub mod Reading
