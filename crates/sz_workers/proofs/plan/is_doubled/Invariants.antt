-- The shards still to come decide.
use Rattle.std.proofs.Common.{◌≡◌, drop}
use Rattle.sz_words.specs.Lists.{is_among}
use Rattle.sz_workers.proofs.plan.is_doubled.Given as goal

abbrev pub invariant-loop-other : goal.invariant-loop-other
invariant-loop-other l = is_among l.shard (drop l.other-index l.twice) ≡ is_among l.shard l.twice
