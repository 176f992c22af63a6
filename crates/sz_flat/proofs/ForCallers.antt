-- What the crates above may cite: that a value has one spelling, and that what has one can be spelled again.
pub use Rattle.sz_flat.proofs.SpellingLemmas.{one_spelling}
pub use Rattle.sz_flat.proofs.ShortLemmas.{short_spelling}
