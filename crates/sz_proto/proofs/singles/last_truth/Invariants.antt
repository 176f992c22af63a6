-- The last truth value so far, or one of those that are left.
use Rattle.std.proofs.Common.{◌≡◌, ℕ, List, drop, false}
use Rattle.sz_proto.specs.Elements.{truths, last_or}
use Rattle.sz_proto.specs.Found.{contents}
use Rattle.sz_proto.proofs.singles.last_truth.Given as goal

abbrev pub invariant-loop-field : goal.invariant-loop-field
invariant-loop-field l = (bytes : List ℕ) → last_or l.last (truths (contents bytes (drop l.field-index l.run)))
    ≡ last_or false (truths (contents bytes l.run))
