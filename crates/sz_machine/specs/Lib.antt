-- what the public contracts rest on
pub mod Ends
-- what the functions inside the crate promise each other
pub mod AtLines
pub mod CodeRuns
pub mod Leasts
pub mod LinesLeft
