-- The pieces so far and what is left are all that was made.
use Rattle.std.specs.Prelude.{◌≡◌, ◌++◌, Ok, map, length}
use Rattle.std.specs.Vec.Iter.{into_iter_items, into_iter_len}
use Rattle.sz_print.proofs.pieces.all_made.Given as goal

abbrev pub invariant-loop-one : goal.invariant-loop-one
invariant-loop-one l =
    (map Ok l.pieces.items ++ into_iter_items l.one-iterator ≡ l.fn.made.items)
    × (into_iter_len l.one-iterator ≡ length (into_iter_items l.one-iterator))
