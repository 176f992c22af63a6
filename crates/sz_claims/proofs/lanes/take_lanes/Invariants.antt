-- The lanes up to this one were taken.
use Rattle.std.proofs.Common.{◌≡◌}
use Rattle.std.specs.Mem.Slots.{slots_items, slots_filled, slots_len}
use Rattle.std.specs.Vec.{vec_len, vec_capacity}
use Rattle.sz_claims.proofs.TakingLemmas.{IsTakenUpTo}
use Rattle.sz_claims.proofs.lanes.take_lanes.Given as goal

abbrev pub invariant-loop-i : goal.invariant-loop-i
invariant-loop-i g l = (l.closed.words ≡ l.initial.closed.words) × (slots_items l.closed.slots ≡ slots_items l.initial.closed.slots)
    × (slots_len l.closed.slots ≡ slots_len l.initial.closed.slots)
    × IsTakenUpTo l.i (slots_items l.initial.closed.slots) (slots_len l.initial.closed.slots) (slots_filled l.closed.slots) l.lanes.items
    (vec_len l.lanes) (vec_capacity l.lanes)
