-- The index lists so far were appended.
use Rattle.std.proofs.Common.{◌≡◌, ◌++◌, take, flat_map}
use Rattle.sz_save_format.specs.Entries.{entry_bytes}
use Rattle.sz_save_format.proofs.put_rows.put_each_entry.Given as goal

abbrev pub invariant-loop-entry : goal.invariant-loop-entry
invariant-loop-entry l =
    l.out.items ≡ l.initial.out.items ++ flat_map (entry_bytes l.kind) (take l.entry-index l.entries)
