pub mod ChangeLemmas
pub mod CoreLemmas
pub mod ReplayLemmas
pub mod RoomLemmas
pub mod ShelfLemmas
pub mod TakingLemmas
pub mod UnplacedLemmas
