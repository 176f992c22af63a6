-- The rows so far are read, and the others are still to come.
use Rattle.std.proofs.Common.{◌≡◌, ◌-◌, ◌≤◌}
use Rattle.sz_types.specs.Seen as types
use Rattle.sz_save_format.specs.Decoding.{many_at}
use Rattle.sz_save_format.specs.DecodingRows.{row_at}
use Rattle.sz_save_format.proofs.FrontLemmas.{after}
use Rattle.sz_save_format.proofs.rows.read_rows.Given as goal

abbrev pub invariant-loop : goal.invariant-loop
invariant-loop l =
    (many_at (row_at l.ranked (types.seen l.element)) l.count l.flat
    ≡ after l.rows (many_at (row_at l.ranked (types.seen l.element)) (l.count - l.counter) l.rest))
    × (l.counter ≤ l.count)
