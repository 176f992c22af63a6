-- The greatest number so far, and of those that are still to come, is the greatest of all.
use Rattle.std.proofs.Common.{◌≡◌, max, drop}
use Rattle.sz_instr.specs.WellFormed.{most_of}
use Rattle.sz_instr.proofs.range.most_of.Given as goal

abbrev pub invariant-loop-routine : goal.invariant-loop-routine
invariant-loop-routine l = max l.most (most_of (drop l.routine-index l.routines)) ≡ most_of l.routines
