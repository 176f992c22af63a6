-- The value was appended as often as the loop has turned.
use Rattle.std.proofs.Common.{◌≡◌, ◌++◌, map, replicate}
use Rattle.sz_value.specs.Seen.{seen}
use Rattle.sz_members.specs.Showing.{seen_ref}
use Rattle.sz_members.proofs.value_rows.push_times.Given as goal

abbrev pub invariant-loop : goal.invariant-loop
invariant-loop l = map seen_ref l.made.items ≡ map seen_ref l.initial.made.items ++ replicate l.counter (seen l.value)
