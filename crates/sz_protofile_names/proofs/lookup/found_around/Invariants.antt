use Rattle.std.proofs.Common.{◌≡◌, ◌≤◌, length}
use Rattle.sz_protofile.specs.Lookup.{found_around}
use Rattle.sz_protofile_names.proofs.lookup.found_around.Given as goal

-- what is found in those that are left is what is found in all
abbrev pub invariant-loop-left : goal.invariant-loop-left
invariant-loop-left l = record {
  same : found_around l.names l.around l.word l.left ≡ found_around l.names l.around l.word (length l.around);
  within : l.left ≤ length l.around;
}

abbrev pub decreases-loop-left : goal.decreases-loop-left
decreases-loop-left l = l.left
