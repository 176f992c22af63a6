-- How many errors there were.
use Rattle.std.proofs.Common.{◌≡◌, ◌+◌, ◌-◌, ◌^◌, min}
use Rattle.sz_io.proofs.os_sink.flush.Given as goal

-- Each try so far gave one error.
abbrev pub invariant-tries : goal.invariant-tries
invariant-tries g l = l.faults.count ≡ min (l.fn.faults.count + l.counter) (2 ^ 64 - 1)
