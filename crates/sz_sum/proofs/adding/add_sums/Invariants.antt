-- The sums so far were added.
use Rattle.sz_sum.proofs.GrownLemmas.{IsGrown}
use Rattle.sz_sum.proofs.adding.add_sums.Given as goal

abbrev pub invariant-loop-at : goal.invariant-loop-at
invariant-loop-at l = IsGrown l.initial.sums l.sums l.more l.at
