-- The steps are fewer each time.
use Rattle.std.proofs.Common.{length}
use Rattle.sz_machine_cells.proofs.storing.+indexes_in.Given as goal

abbrev pub decreases-indexes_in : goal.decreases-indexes_in
decreases-indexes_in l = length l.steps.now
