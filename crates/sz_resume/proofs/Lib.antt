pub mod JoinedLemmas
pub mod RoundLemmas
pub mod SkipLemmas
mod StopLemmas
mod ShardLemmas
mod StandLemmas
pub mod NumberLemmas
mod LeaveLemmas
mod FedLemmas
mod NextLemmas
mod TurnLemmas
mod AppendLemmas
mod WayLemmas
mod StartLemmas
