use Rattle.std.proofs.Common.{◌≡◌, ◌-◌, ◌++◌}
use Rattle.sz_workers.specs.FirstFaults.{merged}
use Rattle.sz_workers.proofs.first_faults.merged.Given as goal

-- the first ones are there, and the others are those of what is left
abbrev pub invariant-loop-taken : goal.invariant-loop-taken
invariant-loop-taken l = l.faults ++ merged (l.most - l.taken) l.ours l.theirs ≡ merged l.most l.first l.other
