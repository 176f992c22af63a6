use Rattle.std.proofs.Common.{◌-◌, ◌≤◌, drop, length}
use Rattle.sz_records.specs.Steps.{CutsFront, IsScanned}
use Rattle.sz_records.proofs.cutter.Cutter.cut.Given as goal

abbrev pub invariant-loop-size : goal.invariant-loop-size
invariant-loop-size l = CutsFront l.fn.self l.self l.bytes (drop l.at l.bytes) l.fn.into l.into
    × (l.at ≤ length l.bytes) × IsScanned l.self.frame (drop l.at l.bytes) l.known

abbrev pub decreases-loop-size : goal.decreases-loop-size
decreases-loop-size l = length l.bytes - l.at
