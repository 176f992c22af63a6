use Rattle.std.proofs.Common.{length}
use Rattle.sz_protofile_types.proofs.Closings.{IsGoing}
use Rattle.sz_protofile_types.proofs.search.Search.close_from.Given as goal

abbrev pub invariant-loop-self : goal.invariant-loop-self
invariant-loop-self l = IsGoing l.place l.number l.initial.self l.self

abbrev pub decreases-loop-self : goal.decreases-loop-self
decreases-loop-self l = length l.self.path.items
