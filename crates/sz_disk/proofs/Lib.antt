pub mod GateForCallers
pub mod EntryLemmas
mod GateLemmas
mod OpenLemmas
pub mod LeaveLemmas
pub mod ChainLemmas
pub mod ReadLemmas
pub mod ForCallers
mod NotedLemmas
mod StretchLemmas
mod TornLemmas
