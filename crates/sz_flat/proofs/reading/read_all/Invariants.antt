-- The values so far are read, and the rest is left.
use Rattle.std.proofs.Common.{length, map}
use Rattle.sz_value.specs.Seen.{seen}
use Rattle.sz_flat.proofs.ListLemmas.{IsReadUpTo}
use Rattle.sz_flat.proofs.reading.read_all.Given as goal

abbrev pub invariant-loop-rest : goal.invariant-loop-rest
invariant-loop-rest l = IsReadUpTo l.flat (map seen l.values.items) l.rest

abbrev pub decreases-loop-rest : goal.decreases-loop-rest
decreases-loop-rest l = length l.rest
