-- The tables so far are merged, and those that are left are the others of the other side.
use Rattle.std.proofs.Common.{◌≡◌, ◌++◌, length}
use Rattle.std.specs.Vec.Iter.{into_iter_items, into_iter_len}
use Rattle.sz_total.proofs.MergingLemmas.{IsMergedTo}
use Rattle.sz_total.proofs.total.merge_all.Given as goal

abbrev pub invariant-loop-other : goal.invariant-loop-other
invariant-loop-other g l =
    (l.at ≡ length l.yielded)
    × (l.yielded ++ into_iter_items l.other-iterator ≡ l.fn.others.items)
    × (into_iter_len l.other-iterator ≡ length (into_iter_items l.other-iterator))
    × IsMergedTo l.at l.fn.others.items l.initial.states.items l.states.items
