-- The groups, with the one that is put behind them, are of the same states as at the start.
use Rattle.std.proofs.Common.{◌++◌, ◌∷◌, [], length}
use Rattle.sz_merge.specs.Groups.{Regroups, held_by}
use Rattle.sz_merge.proofs.groups.with_group.Given as goal

abbrev pub invariant-loop-last : goal.invariant-loop-last
invariant-loop-last l = Regroups (held_by l.initial.groups.items ++ l.initial.group.saved ∷ [])
    (held_by l.groups.items ++ l.group.saved ∷ [])

abbrev pub decreases-loop-last : goal.decreases-loop-last
decreases-loop-last l = length l.groups.items
