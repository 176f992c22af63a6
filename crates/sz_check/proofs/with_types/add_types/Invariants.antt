-- The block has the types so far, and nothing else changes.
use Rattle.std.proofs.Common.{take}
use Rattle.sz_check.proofs.RoundLemmas.{HasTypes}
use Rattle.sz_check.proofs.with_types.add_types.Given as goal

abbrev pub invariant-loop-named : goal.invariant-loop-named
invariant-loop-named l = HasTypes l.fn.known l.known (take l.named-index l.types)
