-- The types so far are read, and the others are still to come.
use Rattle.std.proofs.Common.{◌≡◌, ◌-◌, ◌≤◌}
use Rattle.sz_save_format.specs.Decoding.{many_at, saved_type_at, types_at}
use Rattle.sz_save_format.proofs.FrontLemmas.{after}
use Rattle.sz_save_format.proofs.types.read_types.Given as goal

abbrev pub invariant-loop : goal.invariant-loop
invariant-loop l = (types_at l.flat ≡ after l.types (many_at saved_type_at (l.count - l.counter) l.rest))
    × (l.counter ≤ l.count)
