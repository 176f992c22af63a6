-- One level less is left at each step.
use Rattle.std.proofs.Common.{◌+◌, ◌*◌}
use Rattle.szl.proofs.heights.+height.Given as goal

abbrev pub decreases-parts_left_after_type : goal.decreases-parts_left_after_type
decreases-parts_left_after_type l = 2 * l.most

abbrev pub decreases-parts_left_after_fields : goal.decreases-parts_left_after_fields
decreases-parts_left_after_fields l = 2 * l.most + 1
