-- examples
mod StandardFacts
mod Holds
pub mod LengthLemmas
pub mod LineLemmas
pub mod LoopLemmas
pub mod SkipLemmas
