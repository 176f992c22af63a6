-- The entries so far are dealt, and there is room for the others.
use Rattle.sz_total.proofs.CountingLemmas.{IsDealtTo}
use Rattle.sz_total.proofs.dealing.deal_all.Given as goal

abbrev pub invariant-loop-key : goal.invariant-loop-key
invariant-loop-key l = IsDealtTo l.fn.lists.entries l.key-iterator l.parts.items
