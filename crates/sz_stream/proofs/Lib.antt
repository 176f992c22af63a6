pub mod PlaceLemmas
pub mod ShardLemmas
pub mod FedLemmas
pub mod ClosingLemmas
pub mod PassedLemmas
pub mod RunLemmas
pub mod ReachLemmas
pub mod FillLemmas
