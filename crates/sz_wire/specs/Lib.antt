-- what the public contracts rest on
pub mod Varint
pub mod Key
pub mod Field
