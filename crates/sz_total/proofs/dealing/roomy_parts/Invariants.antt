-- The parts so far have room for their shares.
use Rattle.sz_total.proofs.CountingLemmas.{IsRoomyTo}
use Rattle.sz_total.proofs.dealing.roomy_parts.Given as goal

abbrev pub invariant-loop-at : goal.invariant-loop-at
invariant-loop-at l = IsRoomyTo l.at l.counts l.parts.items
