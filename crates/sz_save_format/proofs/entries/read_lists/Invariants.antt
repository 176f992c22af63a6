-- The entries so far are read, and the others are still to come.
use Rattle.std.proofs.Common.{◌≡◌, ◌-◌, ◌≤◌}
use Rattle.sz_types.specs.SeenTables.{seen_table}
use Rattle.sz_save_format.specs.Decoding.{many_at}
use Rattle.sz_save_format.specs.DecodingRows.{long_counted_at, entry_at}
use Rattle.sz_save_format.proofs.FrontLemmas.{after}
use Rattle.sz_save_format.proofs.entries.read_lists.Given as goal

abbrev pub invariant-loop : goal.invariant-loop
invariant-loop l =
    (long_counted_at (entry_at l.bound (seen_table l.table)) l.flat
    ≡ after l.entries (many_at (entry_at l.bound (seen_table l.table)) (l.count - l.counter) l.rest))
    × (l.counter ≤ l.count)
