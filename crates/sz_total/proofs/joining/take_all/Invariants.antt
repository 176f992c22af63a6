-- The aggregators of the other side so far were taken, and there is room for the others.
use Rattle.std.proofs.Common.{◌≤◌, ◌+◌, length}
use Rattle.indexmap.specs.IndexMap.{index_map_len, spare}
use Rattle.sz_total.proofs.TurnLemmas.{IsTakenUpTo}
use Rattle.sz_total.proofs.joining.take_all.Given as goal

abbrev pub invariant-loop-key : goal.invariant-loop-key
invariant-loop-key l =
    IsTakenUpTo l.initial.lists.entries l.fn.others.entries l.lists.entries l.key-iterator
    × (length l.key-iterator ≤ spare l.lists)
    × (index_map_len l.initial.lists + spare l.initial.lists ≤ index_map_len l.lists + spare l.lists)
