-- what the public contracts rest on
pub mod Makers
pub mod Working
pub mod Advances
pub mod Laws
pub mod Closing
pub mod Outcomes
pub mod Rounds
pub mod Cuts
pub mod RoundTickets
pub mod FirstFaults
pub mod FirstOfBoth
pub mod Parts
pub mod Starting
-- what the functions inside the crate promise each other
pub mod LoopTickets
pub mod Ends
pub mod RoundRuns
