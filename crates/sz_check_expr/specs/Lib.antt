-- what the public contracts rest on
pub mod Asking
-- what the functions inside the crate promise each other
pub mod Lists
pub mod Calling
pub mod Operating
