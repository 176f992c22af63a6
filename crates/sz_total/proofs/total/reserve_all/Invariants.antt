-- There is room in the tables so far.
use Rattle.std.proofs.Common.{◌≡◌, length}
use Rattle.sz_total.proofs.MergingLemmas.{IsRoomMadeTo}
use Rattle.sz_total.proofs.total.reserve_all.Given as goal

abbrev pub invariant-loop-at : goal.invariant-loop-at
invariant-loop-at l =
    IsRoomMadeTo l.at l.initial.states.items l.initial.others.items l.states.items l.others.items
    × (length l.others.items ≡ length l.initial.others.items)
