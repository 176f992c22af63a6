-- What is summed so far, and what is ahead, is the whole.
use Rattle.std.proofs.Common.{◌≡◌, ◌+◌, drop}
use Rattle.sz_machine_cells.specs.Results.{slots_weight}
use Rattle.sz_machine_cells.proofs.operands.sum_within.Given as goal

abbrev pub invariant-loop-cell : goal.invariant-loop-cell
invariant-loop-cell l = l.sum + slots_weight (drop l.cell-index l.cells) ≡ l.fn.first + slots_weight l.cells
