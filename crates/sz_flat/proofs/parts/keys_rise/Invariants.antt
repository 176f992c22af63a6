-- The keys so far rise.
use Rattle.std.proofs.Common.{map, take}
use Rattle.sz_value.specs.Order.{KeysRise}
use Rattle.sz_value.specs.Seen.{seen_pair}
use Rattle.sz_flat.proofs.parts.keys_rise.Given as goal

abbrev pub invariant-loop-i : goal.invariant-loop-i
invariant-loop-i l = KeysRise (map seen_pair (take l.i l.pairs))
