use Rattle.std.proofs.Common.{◌+◌, ◌-◌, ◌*◌, ◌≤◌, length}
use Rattle.sz_wire.proofs.GroupLemmas.{IsInGroup}
use Rattle.sz_wire.proofs.group.+group.Given as goal

-- a value lies below the group that it is in, and a group below the value that it is
abbrev pub decreases-after_group : goal.decreases-after_group
decreases-after_group l = 2 * (100 - l.depth) + 1

abbrev pub decreases-after_value : goal.decreases-after_value
decreases-after_value l = 2 * (100 - l.depth)

abbrev pub invariant-after_group-loop-place : goal.invariant-after_group-loop-place
invariant-after_group-loop-place l =
    IsInGroup l.bytes (100 - l.depth) l.number l.at l.place × (l.place ≤ length l.bytes)

abbrev pub decreases-after_group-loop-place : goal.decreases-after_group-loop-place
decreases-after_group-loop-place l = length l.bytes - l.place
