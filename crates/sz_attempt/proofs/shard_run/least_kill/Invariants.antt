use Rattle.std.proofs.Common.{◌≡◌, take}
use Rattle.sz_attempt.specs.Attempts.{kills_of, least_of}
use Rattle.sz_attempt.proofs.shard_run.least_kill.Given as goal

-- the least of the kills so far
abbrev pub invariant-loop-kill : goal.invariant-loop-kill
invariant-loop-kill l = l.least ≡ least_of (kills_of l.shard_no l.number (take l.kill-index l.kills))
