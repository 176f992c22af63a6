-- The runs so far end where they should, and the pairs of all are the same.
use Rattle.std.proofs.Common.{◌≡◌, length, take}
use Rattle.sz_value.specs.Runs.{AreEnds, AreFilled}
use Rattle.sz_value.specs.Seen.{seen_runs}
use Rattle.sz_value.proofs.runs.set_ends.Given as goal

abbrev pub invariant-loop-at : goal.invariant-loop-at
invariant-loop-at l = record {
  front : AreEnds 0 (take l.at l.runs.items);
  filled : AreFilled l.runs.items;
  same : seen_runs l.runs.items ≡ seen_runs l.fn.runs.items;
  count : l.at-end ≡ length l.runs.items;
}
