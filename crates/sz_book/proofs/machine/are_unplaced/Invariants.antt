use Rattle.std.proofs.Common.{take}
use Rattle.sz_book_rules.specs.Machine.{AreUnplaced}
use Rattle.sz_book.proofs.machine.are_unplaced.Given as goal

-- the shards so far are unplaced
abbrev pub invariant-loop-i : goal.invariant-loop-i
invariant-loop-i l = AreUnplaced 0 l.marks (take l.i l.shards)
