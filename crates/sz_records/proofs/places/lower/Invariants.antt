-- The places in front of this one are lowered.
use Rattle.sz_records.proofs.EndsLemmas.{AreLowered}
use Rattle.sz_records.proofs.places.lower.Given as goal

abbrev pub invariant-loop-place : goal.invariant-loop-place
invariant-loop-place l = AreLowered l.front l.fn.places.items l.place-items l.place-index
