use Rattle.std.proofs.Common.{◌≡◌, drop}
use Rattle.sz_book_rules.specs.Machine.{placed, AreUnplaced}
use Rattle.sz_book.proofs.machine.place.Given as goal

-- the shards that are left may be placed, and lead to the same marks
abbrev pub invariant-loop-shard : goal.invariant-loop-shard
invariant-loop-shard l =
    AreUnplaced 0 l.marks (drop l.shard-index l.shards)
    × (placed l.marks (drop l.shard-index l.shards) ≡ placed l.initial.marks l.shards)
