-- The lines of the index lists so far were appended.
use Rattle.std.proofs.Common.{◌≡◌, ◌≤◌, ◌-◌, ◌++◌, take, drop}
use Rattle.sz_types.specs.SeenTables.{seen_table}
use Rattle.sz_print.specs.Tables.{table_lines}
use Rattle.sz_print.proofs.pieces.push_places.Given as goal

abbrev pub invariant-loop-place : goal.invariant-loop-place
invariant-loop-place l =
    (l.from ≤ l.place)
    × (l.out.items
    ≡ l.initial.out.items ++ table_lines (seen_table l.table) (take (l.place - l.from) (drop l.from l.shown)))
