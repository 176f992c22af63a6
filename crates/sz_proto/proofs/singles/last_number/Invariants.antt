-- The last whole number so far, or one of those that are left.
use Rattle.std.proofs.Common.{◌≡◌, ℕ, pos, List, drop}
use Rattle.sz_proto.specs.Elements.{numbers, last_or}
use Rattle.sz_proto.specs.Found.{contents}
use Rattle.sz_proto.proofs.singles.last_number.Given as goal

abbrev pub invariant-loop-field : goal.invariant-loop-field
invariant-loop-field l = (bytes : List ℕ)
    → last_or l.last (numbers l.code (contents bytes (drop l.field-index l.run)))
    ≡ last_or (pos 0) (numbers l.code (contents bytes l.run))
