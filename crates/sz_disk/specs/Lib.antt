-- what the public contracts rest on
pub mod Entries
pub mod Crashing
pub mod GateCalls
pub mod Laws
pub mod Crashes
pub mod Calls
pub mod Stretches
pub mod MemDisk
pub mod OsDisk
-- what the functions inside the crate promise each other
pub mod Gates
