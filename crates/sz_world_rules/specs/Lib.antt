-- what the public contracts rest on
pub mod World
pub mod Slots
pub mod Typed
pub mod Operations
pub mod Ticks
pub mod Emits
pub mod Candidates
pub mod Stores
