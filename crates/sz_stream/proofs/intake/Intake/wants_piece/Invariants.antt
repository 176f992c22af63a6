use Rattle.std.proofs.Common.{◌-◌, ◌≤◌, length}
use Rattle.sz_stream.specs.Intakes.{Closes}
use Rattle.sz_stream.proofs.intake.Intake.wants_piece.Given as goal

-- some shards were closed
abbrev pub invariant-loop-start : goal.invariant-loop-start
invariant-loop-start l = record {
  closes : Closes l.fn.self l.self;
  within : l.self.closed ≤ length l.self.round.records.items;
}

-- how many records are left
abbrev pub decreases-loop-start : goal.decreases-loop-start
decreases-loop-start l = length l.self.round.records.items - l.self.closed
