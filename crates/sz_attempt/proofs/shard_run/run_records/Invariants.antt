use Rattle.sz_attempt.specs.Shards.{records_of}
use Rattle.sz_attempt.proofs.RunLemmas.{IsRunUpTo}
use Rattle.sz_attempt.proofs.shard_run.run_records.Given as goal

-- the records in front were run
abbrev pub invariant-loop-i : goal.invariant-loop-i
invariant-loop-i l = IsRunUpTo l.job l.shard.first (records_of l.records.items l.shard) l.i l.part l.faults
