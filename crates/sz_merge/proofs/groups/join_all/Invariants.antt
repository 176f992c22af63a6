-- The groups, with what those behind them hold, are of the same states as at the start.
use Rattle.std.proofs.Common.{◌++◌, ◌∷◌, [], length}
use Rattle.sz_merge.specs.Groups.{Regroups, held_by}
use Rattle.sz_merge.proofs.groups.join_all.Given as goal

abbrev pub invariant-loop-group : goal.invariant-loop-group
invariant-loop-group l =
    Regroups (held_by l.initial.groups.items ++ l.initial.all.saved ∷ []) (held_by l.groups.items ++ l.all.saved ∷ [])

abbrev pub decreases-loop-group : goal.decreases-loop-group
decreases-loop-group l = length l.groups.items
