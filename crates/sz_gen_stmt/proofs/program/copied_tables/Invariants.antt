-- The tables so far, and those that are left, are all of them.
use Rattle.std.proofs.Common.{◌≡◌, ◌++◌, map, drop}
use Rattle.sz_core.specs.Programs.{tables_of}
use Rattle.sz_core.specs.View.{item_of}
use Rattle.sz_gen_stmt.proofs.program.copied_tables.Given as goal

abbrev pub invariant-loop-item : goal.invariant-loop-item
invariant-loop-item l =
    l.tables ++ tables_of (map item_of (drop l.item-index l.items)) ≡ tables_of (map item_of l.items)
