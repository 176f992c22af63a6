use Rattle.std.proofs.Common.{◌≡◌}
use Rattle.sz_workers.specs.RoundTickets.{tickets_upto}
use Rattle.sz_workers.proofs.plan.tickets_of.Given as goal

-- the tickets are those of the shards so far
abbrev pub invariant-loop-shard : goal.invariant-loop-shard
invariant-loop-shard l = l.tickets ≡ tickets_upto l.twice l.first l.shard
