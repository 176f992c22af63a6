pub mod TurnLemmas
mod StandardFacts
