use Rattle.sz_wire.proofs.VarintLemmas.{IsReadTo}
use Rattle.sz_wire.proofs.varint.read_varint.Given as goal

abbrev pub invariant-loop-i : goal.invariant-loop-i
invariant-loop-i l = IsReadTo l.bytes l.at l.i l.value l.weight
