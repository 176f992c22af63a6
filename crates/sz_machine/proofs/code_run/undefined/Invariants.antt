-- So many slots are there as the loop has made turns.
use Rattle.std.proofs.Common.{◌≡◌}
use Rattle.sz_world_rules.specs.Slots.{undefined_slots}
use Rattle.sz_machine.proofs.code_run.undefined.Given as goal

abbrev pub invariant-loop : goal.invariant-loop
invariant-loop l = l.slots ≡ undefined_slots l.counter
