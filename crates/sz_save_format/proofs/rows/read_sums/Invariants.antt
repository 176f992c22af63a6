-- The sums so far are read, and the others are still to come.
use Rattle.std.proofs.Common.{◌≡◌, ◌-◌, ◌≤◌}
use Rattle.sz_save_format.specs.Decoding.{many_at, counted_at}
use Rattle.sz_save_format.specs.DecodingRows.{sum_at}
use Rattle.sz_save_format.proofs.FrontLemmas.{after}
use Rattle.sz_save_format.proofs.rows.read_sums.Given as goal

abbrev pub invariant-loop : goal.invariant-loop
invariant-loop l =
    (counted_at (sum_at l.most) l.flat ≡ after l.sums (many_at (sum_at l.most) (l.count - l.counter) l.rest))
    × (l.counter ≤ l.count)
