mod TablesLemmas
mod ListLemmas
mod EntryLemmas
mod BoundedLemmas
mod JoiningLemmas
mod TurnLemmas
mod TypedLemmas
mod KeyLemmas
mod ReadLemmas
mod ChunkLemmas
mod PlaceLemmas
mod PartLemmas
mod PartsLemmas
mod DealingLemmas
mod TotalLemmas
mod MergingLemmas
mod CountingLemmas
mod RoomLemmas
mod OneTableLemmas
mod OriginLemmas
pub mod OrderLemmas
pub mod SendLemmas
mod StandardFacts
