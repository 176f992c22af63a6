use Rattle.std.proofs.Common.{take}
use Rattle.sz_attempt.specs.ShardRuns.{GainsAll}
use Rattle.sz_attempt.proofs.shard_run.add_all.Given as goal

-- the emits so far are added
abbrev pub invariant-loop-emit : goal.invariant-loop-emit
invariant-loop-emit l = GainsAll l.initial.part l.part (take l.emit-index l.emits)
