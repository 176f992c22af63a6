-- The tables so far were appended.
use Rattle.std.proofs.Common.{◌≡◌, ◌++◌, map, zip, take, flat_map}
use Rattle.sz_types.specs.SeenTables.{seen_table}
use Rattle.sz_save_format.specs.Saved.{table_bytes}
use Rattle.sz_save_format.proofs.writing.put_tables.Given as goal

abbrev pub invariant-loop-i : goal.invariant-loop-i
invariant-loop-i l =
    l.out.items ≡ l.initial.out.items ++ flat_map table_bytes (take l.i (zip (map seen_table l.decls) l.tables))
