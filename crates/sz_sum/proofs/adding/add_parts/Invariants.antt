-- The numbers of the parts so far were added.
use Rattle.sz_tabs.proofs.AddingLemmas.{IsAdded}
use Rattle.sz_sum.proofs.adding.add_parts.Given as goal

abbrev pub invariant-loop-at : goal.invariant-loop-at
invariant-loop-at l = IsAdded l.initial.sums l.sums l.parts l.at
