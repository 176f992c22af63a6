-- There is one value less after each turn.
use Rattle.std.proofs.Common.{length}
use Rattle.sz_machine_rows.proofs.emitted.empty.Given as goal

abbrev pub decreases-loop-list : goal.decreases-loop-list
decreases-loop-list l = length l.list
