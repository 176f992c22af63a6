-- what the public contracts rest on
pub mod Joined
pub mod Text
pub mod Lines
pub mod Tables
pub mod Laws
