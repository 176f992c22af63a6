-- The fields up to here are read.
use Rattle.std.proofs.Common.{◌-◌}
use Rattle.sz_proto.proofs.ReadingLemmas.{IsReading}
use Rattle.sz_proto.proofs.finding.read_payload.Given as goal

abbrev pub invariant-loop-field : goal.invariant-loop-field
invariant-loop-field l = IsReading l.bytes l.depth l.from l.to l.at l.fn.into.items l.into.items

abbrev pub decreases-loop-field : goal.decreases-loop-field
decreases-loop-field l = l.to - l.at
