-- What the parts so far have was received, and those that are left are the others of the other side.
use Rattle.std.proofs.Common.{◌≡◌, ◌++◌, length}
use Rattle.std.specs.Vec.Iter.{into_iter_items, into_iter_len}
use Rattle.sz_total.proofs.RoomLemmas.{IsReceivedTo}
use Rattle.sz_total.proofs.parts.receive_all.Given as goal

abbrev pub invariant-loop-other : goal.invariant-loop-other
invariant-loop-other l =
    (l.at ≡ length l.yielded)
    × (l.yielded ++ into_iter_items l.other-iterator ≡ l.fn.others.items)
    × (into_iter_len l.other-iterator ≡ length (into_iter_items l.other-iterator))
    × IsReceivedTo l.at l.fn.others.items l.initial.parts.items l.parts.items
