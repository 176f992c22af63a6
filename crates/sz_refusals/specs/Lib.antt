-- what the public contracts rest on
pub mod Refusing
pub mod Lines
-- what contracts of the crates above rest on
pub mod Texts
