use Rattle.sz_workers.specs.Parts.{HoldsShards}
use Rattle.sz_workers.specs.RoundRuns.{IsPooled}
use Rattle.sz_workers.proofs.round_end.finish.Given as goal

-- all shards in front are in the pool
abbrev pub invariant-loop-place : goal.invariant-loop-place
invariant-loop-place g l =
    HoldsShards g.N.RoundName.job g.N.RoundName.round l.pool.part.total l.pool.part.first l.pool.shards
    × IsPooled l.settled l.pool.shards l.place
