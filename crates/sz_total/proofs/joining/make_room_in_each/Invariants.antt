-- Room was made for the aggregators of the other side so far.
use Rattle.std.proofs.Common.{◌≡◌}
use Rattle.indexmap.specs.IndexMap.{index_map_len, spare}
use Rattle.sz_total.proofs.TurnLemmas.{IsRoomUpTo}
use Rattle.sz_total.proofs.joining.make_room_in_each.Given as goal

abbrev pub invariant-loop-key : goal.invariant-loop-key
invariant-loop-key l =
    IsRoomUpTo l.initial.lists.entries l.others.entries l.lists.entries l.key-iterator
    × (index_map_len l.lists ≡ index_map_len l.initial.lists)
    × (spare l.lists ≡ spare l.initial.lists)
