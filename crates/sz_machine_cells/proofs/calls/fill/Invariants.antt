-- So many cells are there as the loop has made turns.
use Rattle.std.proofs.Common.{◌≡◌, ◌++◌}
use Rattle.sz_world_rules.specs.Slots.{undefined_slots}
use Rattle.sz_machine_cells.proofs.calls.fill.Given as goal

abbrev pub invariant-loop : goal.invariant-loop
invariant-loop l = l.cells.items ≡ l.initial.cells.items ++ undefined_slots l.counter
