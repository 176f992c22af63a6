pub mod ForCallers
pub mod Moves
pub mod Gets
pub mod ListedLemmas
pub mod NamedLemmas
pub mod PlacedLemmas
pub mod PutLemmas
pub mod TryLemmas
pub mod PlanLemmas
mod LineLemmas
