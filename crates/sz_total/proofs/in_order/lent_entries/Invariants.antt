-- The entries of the parts so far are lent.
use Rattle.sz_total.proofs.ReadLemmas.{AreLent}
use Rattle.sz_total.proofs.in_order.lent_entries.Given as goal

abbrev pub invariant-loop-part : goal.invariant-loop-part
invariant-loop-part l = AreLent l.parts.items l.part-index l.entries.items
