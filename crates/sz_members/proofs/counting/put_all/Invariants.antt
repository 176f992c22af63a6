-- The emits of both sides are those of what is kept and of what is left, and there is room for that.
use Rattle.std.proofs.Common.{◌≤◌, ◌+◌, length}
use Rattle.indexmap.specs.IndexMap.{index_map_len, spare}
use Rattle.sz_types.specs.SeenTables.{seen_table}
use Rattle.sz_members.proofs.MembersLemmas.{IsUpTo}
use Rattle.sz_members.proofs.counting.put_all.Given as goal

abbrev pub invariant-loop-value : goal.invariant-loop-value
invariant-loop-value l =
    IsUpTo (seen_table l.table) l.initial.tally.entries l.fn.others.entries l.tally.entries l.value-iterator
    × (length l.value-iterator ≤ spare l.tally)
    × (index_map_len l.initial.tally + spare l.initial.tally ≤ index_map_len l.tally + spare l.tally)
