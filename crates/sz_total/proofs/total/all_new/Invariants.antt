-- There is a table for each declaration so far.
use Rattle.std.proofs.Common.{◌≡◌, map, take}
use Rattle.sz_types.specs.SeenTables.{seen_table}
use Rattle.sz_total.specs.OneTable.{new_table}
use Rattle.sz_total.proofs.total.all_new.Given as goal

abbrev pub invariant-loop-table : goal.invariant-loop-table
invariant-loop-table l = l.states.items ≡ map new_table (map seen_table (take l.table-index l.table-items))
