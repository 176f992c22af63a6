-- The sums are those of the emits so far.
use Rattle.sz_tabs.proofs.AddingLemmas.{IsSummed}
use Rattle.sz_tabs.proofs.adding.sums_of.Given as goal

abbrev pub invariant-loop-one : goal.invariant-loop-one
invariant-loop-one l = IsSummed l.sums.items l.kept l.one-index
