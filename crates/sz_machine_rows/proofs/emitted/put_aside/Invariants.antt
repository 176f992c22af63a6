-- The first emits stay.
use Rattle.std.proofs.Common.{◌≡◌, ◌≤◌, length, take}
use Rattle.sz_machine_rows.proofs.emitted.put_aside.Given as goal

abbrev pub invariant-loop-spare : goal.invariant-loop-spare
invariant-loop-spare l =
    (l.count ≤ length l.emits.items) × (take l.count l.emits.items ≡ take l.count l.initial.emits.items)

abbrev pub decreases-loop-spare : goal.decreases-loop-spare
decreases-loop-spare l = length l.emits.items
