-- Those that are joined so far and those that are left.
use Rattle.std.proofs.Common.{◌∷◌, [], length}
use Rattle.sz_save.specs.Walk.{CanJoin}
use Rattle.sz_save.specs.Reading.{GoesOn}
use Rattle.sz_save.proofs.walk.pass_lesser.Given as goal

abbrev pub invariant-loop-kept : goal.invariant-loop-kept
invariant-loop-kept l = record {
  goes : GoesOn l.kind l.limit (l.entry ∷ []) l.fn.walk.joined l.fn.walk.left.items (l.entry ∷ [])
      l.joined l.left.items;
  can : CanJoin l.kind l.left.items (l.entry ∷ []);
}

abbrev pub decreases-loop-kept : goal.decreases-loop-kept
decreases-loop-kept l = length l.left.items
