-- what the public contracts rest on
pub mod Journals
pub mod Laws
pub mod Jobs
pub mod Rounds
pub mod EntryLaws
pub mod Logged
pub mod Journal
pub mod Kept
pub mod Keeping
pub mod Opening
-- what the functions inside the crate promise each other
pub mod EntryReading
pub mod Reading
