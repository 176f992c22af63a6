-- The tables so far are read, and the others are still to come.
use Rattle.std.proofs.Common.{◌≡◌, ◌-◌, ◌≤◌, length, zip}
use Rattle.sz_save_format.specs.Decoding.{many_at, counted_at}
use Rattle.sz_save_format.specs.DecodingRows.{table_at}
use Rattle.sz_save_format.proofs.FrontLemmas.{after}
use Rattle.sz_save_format.proofs.saved.read_tables.Given as goal

abbrev pub invariant-loop : goal.invariant-loop
invariant-loop l =
    (counted_at (table_at l.bound) l.flat
    ≡ after (zip l.decls l.tables) (many_at (table_at l.bound) (l.count - l.counter) l.rest))
    × (l.counter ≤ l.count) × (length l.tables ≡ length l.decls)
