-- The elements up to here are read.
use Rattle.std.proofs.Common.{length, ◌-◌}
use Rattle.sz_proto.proofs.PackedLemmas.{IsUnpacking}
use Rattle.sz_proto.proofs.packed.packed.Given as goal

abbrev pub invariant-loop-at : goal.invariant-loop-at
invariant-loop-at l = IsUnpacking l.code l.bytes l.at l.numbers.items

abbrev pub decreases-loop-at : goal.decreases-loop-at
decreases-loop-at l = length l.bytes - l.at
