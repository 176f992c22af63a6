-- what the public contracts rest on
pub mod Feed
pub mod Program
