-- The parts so far are settled.
use Rattle.sz_total.proofs.RoomLemmas.{IsSettledTo}
use Rattle.sz_total.proofs.hands.settle_one_by_one.Given as goal

abbrev pub invariant-loop-at : goal.invariant-loop-at
invariant-loop-at l = IsSettledTo l.at l.initial.parts.items l.parts.items
