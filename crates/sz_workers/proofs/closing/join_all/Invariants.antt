-- Those so far are joined, and the others are back.
use Rattle.std.specs.Prelude.{◌≡◌, ◌+◌, length}
use Rattle.std.specs.Vec.Iter.{into_iter_items, into_iter_len}
use Rattle.sz_workers.specs.Closing.{AreBack, HasTakenIn}
use Rattle.sz_workers.proofs.closing.join_all.Given as goal

abbrev pub invariant-loop-result : goal.invariant-loop-result
invariant-loop-result g l =
    HasTakenIn l.ledger l.first l.pockets.items
    × AreBack l.ledger (length l.first.joined + 1) (into_iter_items l.result-iterator)
    × (length l.first.joined + length (into_iter_items l.result-iterator) + 1 ≡ l.first.made)
    × (into_iter_len l.result-iterator ≡ length (into_iter_items l.result-iterator))
