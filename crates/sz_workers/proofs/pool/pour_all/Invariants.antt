-- The lanes so far are in the pool, and those that are left are apart from it.
use Rattle.std.specs.Prelude.{◌≡◌, ◌++◌, length}
use Rattle.std.specs.Vec.Iter.{into_iter_items, into_iter_len}
use Rattle.sz_workers.specs.Closing.{shards_in}
use Rattle.sz_workers.specs.Parts.{HoldsShards}
use Rattle.sz_workers.proofs.pool.pour_all.Given as goal

abbrev pub invariant-loop-lane : goal.invariant-loop-lane
invariant-loop-lane g l =
    HoldsShards g.N.RoundName.job g.N.RoundName.round l.pool.part.total l.pool.part.first l.pool.shards
    × (l.pool.shards ++ shards_in (into_iter_items l.lane-iterator)
    ≡ l.initial.pool.shards ++ shards_in l.fn.lanes.items)
    × (into_iter_len l.lane-iterator ≡ length (into_iter_items l.lane-iterator))
