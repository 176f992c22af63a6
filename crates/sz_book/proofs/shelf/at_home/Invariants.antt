-- The lanes so far are the front.
use Rattle.std.proofs.Common.{◌≡◌, ◌++◌, Some, map, length}
use Rattle.std.specs.Vec.Iter.{into_iter_items, into_iter_len}
use Rattle.sz_book.proofs.shelf.at_home.Given as goal

abbrev pub invariant-loop-lane : goal.invariant-loop-lane
invariant-loop-lane g l = (l.yielded ++ into_iter_items l.lane-iterator ≡ into_iter_items l.initial.lane-iterator)
    × (l.homes.items ≡ map (λ lane. Some lane) l.yielded)
    × (into_iter_len l.lane-iterator ≡ length (into_iter_items l.lane-iterator))
