-- The bytes of the pieces so far, or the highest number.
use Rattle.std.specs.Prelude.{◌≡◌, ◌-◌, ◌^◌, min, take, length}
use Rattle.std.specs.List.{concat}
use Rattle.sz_print.proofs.pieces.length_of_all.Given as goal

abbrev pub invariant-loop-piece : goal.invariant-loop-piece
invariant-loop-piece l = l.bytes ≡ min (length (concat (take l.piece-index l.pieces))) (2 ^ 64 - 1)
