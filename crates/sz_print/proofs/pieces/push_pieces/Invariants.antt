-- What was appended and what is left are all pieces.
use Rattle.std.specs.Prelude.{◌≡◌, ◌++◌, length}
use Rattle.std.specs.List.{concat}
use Rattle.std.specs.Vec.Iter.{into_iter_items, into_iter_len}
use Rattle.sz_print.proofs.pieces.push_pieces.Given as goal

abbrev pub invariant-loop-piece : goal.invariant-loop-piece
invariant-loop-piece l =
    (l.out.items ++ concat (into_iter_items l.piece-iterator) ≡ l.initial.out.items ++ concat l.fn.pieces.items)
    × (into_iter_len l.piece-iterator ≡ length (into_iter_items l.piece-iterator))
