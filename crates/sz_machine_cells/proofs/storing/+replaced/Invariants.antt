-- The steps are fewer each time.
use Rattle.std.proofs.Common.{◌+◌, ◌*◌, length}
use Rattle.sz_machine_cells.proofs.storing.+replaced.Given as goal

abbrev pub decreases-replaced : goal.decreases-replaced
decreases-replaced l = 4 * length l.steps.now

abbrev pub decreases-part_replaced : goal.decreases-part_replaced
decreases-part_replaced l = 4 * length l.steps.now + 1

abbrev pub decreases-pair_replaced : goal.decreases-pair_replaced
decreases-pair_replaced l = 4 * length l.steps.now + 1

abbrev pub decreases-in_tuple : goal.decreases-in_tuple
decreases-in_tuple l = 4 * length l.steps.now + 2

abbrev pub decreases-in_array : goal.decreases-in_array
decreases-in_array l = 4 * length l.steps.now + 2

abbrev pub decreases-in_map : goal.decreases-in_map
decreases-in_map l = 4 * length l.steps.now + 2

abbrev pub decreases-at_key : goal.decreases-at_key
decreases-at_key l = 4 * length l.steps.now + 3
