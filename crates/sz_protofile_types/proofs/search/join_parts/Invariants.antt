use Rattle.std.proofs.Common.{length}
use Rattle.sz_protofile_types.proofs.Cuts.{IsCutting}
use Rattle.sz_protofile_types.proofs.search.join_parts.Given as goal

abbrev pub invariant-loop-start : goal.invariant-loop-start
invariant-loop-start l = IsCutting l.place l.initial.starts.items l.starts.items

abbrev pub decreases-loop-start : goal.decreases-loop-start
decreases-loop-start l = length l.starts.items
