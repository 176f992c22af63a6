-- The lists that were set apart are the same.
use Rattle.std.proofs.Common.{◌≡◌}
use Rattle.sz_machine_cells.proofs.calls.apart_from.Given as goal

abbrev pub invariant-loop-n : goal.invariant-loop-n
invariant-loop-n l = l.lists.items ≡ l.initial.lists.items
