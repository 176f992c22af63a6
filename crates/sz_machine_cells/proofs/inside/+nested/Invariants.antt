-- The places are fewer each time.
use Rattle.std.proofs.Common.{length}
use Rattle.sz_machine_cells.proofs.inside.+nested.Given as goal

abbrev pub decreases-nested : goal.decreases-nested
decreases-nested l = length l.places.now
