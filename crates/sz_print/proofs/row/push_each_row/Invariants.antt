-- The lines of the rows so far were appended.
use Rattle.std.proofs.Common.{◌≡◌, ◌++◌, map, take, flat_map}
use Rattle.sz_types.specs.SeenTables.{seen_table}
use Rattle.sz_value.specs.Seen.{seen}
use Rattle.sz_print.specs.Lines.{row_line}
use Rattle.sz_print.proofs.row.push_each_row.Given as goal

abbrev pub invariant-loop-row : goal.invariant-loop-row
invariant-loop-row l =
    l.out.items
    ≡ l.initial.out.items ++ flat_map (row_line (seen_table l.table) (map seen l.indexes)) (take l.row-index l.rows)
