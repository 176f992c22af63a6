-- The shards so far are read, and the others are still to come.
use Rattle.std.proofs.Common.{◌≡◌, ◌-◌, ◌≤◌}
use Rattle.sz_save_format.specs.Decoding.{length_at, many_at, counted_at}
use Rattle.sz_save_format.proofs.FrontLemmas.{after}
use Rattle.sz_journal.proofs.parts.read_doubled.Given as goal

abbrev pub invariant-loop : goal.invariant-loop
invariant-loop l = (counted_at length_at l.flat ≡ after l.shards (many_at length_at (l.count - l.counter) l.rest))
    × (l.counter ≤ l.count)
