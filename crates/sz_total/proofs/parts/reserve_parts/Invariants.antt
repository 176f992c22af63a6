-- There is room in the parts so far.
use Rattle.sz_total.proofs.RoomLemmas.{IsPartRoomTo}
use Rattle.sz_total.proofs.parts.reserve_parts.Given as goal

abbrev pub invariant-loop-at : goal.invariant-loop-at
invariant-loop-at l = IsPartRoomTo l.at l.others.items l.initial.parts.items l.parts.items
