-- laws of places, for the crates above as well
pub mod NamesLemmas
mod ChainLemmas
mod WayLemmas
mod BlocksLemmas
mod FoundLemmas
mod SoundLemmas
mod LookupLemmas
