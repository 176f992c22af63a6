-- what the public contracts rest on
pub mod Outcome
pub mod Sites
pub mod Written
pub mod Knowledge
pub mod Keeping
pub mod Sorts
-- what the functions inside the crate promise each other
pub mod Parts
pub mod KnownCode
-- how whole lists are judged, for the crates above as well
pub mod Turns
