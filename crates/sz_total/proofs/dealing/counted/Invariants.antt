-- The index lists so far are counted, and those that are left are the others.
use Rattle.sz_total.proofs.CountingLemmas.{IsCountedTo}
use Rattle.sz_total.proofs.dealing.counted.Given as goal

abbrev pub invariant-loop-key : goal.invariant-loop-key
invariant-loop-key l = IsCountedTo l.lists.entries l.key-iterator l.counts
