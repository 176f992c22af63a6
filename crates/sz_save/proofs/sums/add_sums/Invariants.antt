-- The first sums are added in place, and the others stand as they did.
use Rattle.std.proofs.Common.{◌≡◌}
use Rattle.sz_save.proofs.SumLemmas.{added_up_to}
use Rattle.sz_save.proofs.sums.add_sums.Given as goal

abbrev pub invariant-loop-i : goal.invariant-loop-i
invariant-loop-i l = l.sums ≡ added_up_to l.i l.initial.sums l.others
