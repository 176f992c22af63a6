use Rattle.sz_workers.proofs.RestLemmas.{AllDied}
use Rattle.sz_workers.proofs.round_end.run_shard.Given as goal

-- the attempts so far died
abbrev pub invariant-loop-number : goal.invariant-loop-number
invariant-loop-number g l = AllDied l.job l.round l.place l.number
