use Rattle.std.proofs.Common.{length}
use Rattle.sz_scope.proofs.SoundLemmas.{IsClosing}
use Rattle.sz_scope.proofs.chain.remove_deeper.Given as goal

abbrev pub invariant-loop-entry : goal.invariant-loop-entry
invariant-loop-entry l = IsClosing l.depth l.fn.entries.items (length l.fn.newest.items) l.entries.items l.newest.items

abbrev pub decreases-loop-entry : goal.decreases-loop-entry
decreases-loop-entry l = length l.entries.items
