pub mod ChainLemmas
pub mod RoundsLemmas
pub mod JournalLemmas
pub mod FindLemmas
pub mod JobLemmas
pub mod EntryRoundLemmas
pub mod FollowLemmas
mod PutLemmas
mod NumberLemmas
mod SpellLemmas
mod FirstLemmas
mod RoundLemmas
mod TurnLemmas
mod LeftLemmas
mod ReadLemmas
mod OpenLemmas
