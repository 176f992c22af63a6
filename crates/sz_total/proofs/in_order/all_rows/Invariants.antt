-- Those so far are read.
use Rattle.sz_total.proofs.ReadLemmas.{AreRead}
use Rattle.sz_total.proofs.in_order.all_rows.Given as goal

abbrev pub invariant-loop-entry : goal.invariant-loop-entry
invariant-loop-entry l = AreRead l.entry-items l.entry-index l.all
