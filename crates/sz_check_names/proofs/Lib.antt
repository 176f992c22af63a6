-- for the crates above as well
pub mod TurnLemmas
-- what the proofs of this crate rest on
mod KeepingLemmas
mod WrittenLemmas
mod TakenLemmas
mod SortLemmas
mod TypeLoops
