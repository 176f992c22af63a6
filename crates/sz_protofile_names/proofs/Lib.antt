mod SoundLemmas
mod SetLemmas
mod WordLemmas
mod LoopLemmas
mod HashLemmas
