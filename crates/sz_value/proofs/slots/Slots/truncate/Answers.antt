-- The first slots are seen as the first of what is seen.
use Rattle.std.proofs.Common.{sym}
use Rattle.std.specs.List.{take-map}
use Rattle.sz_value.specs.Seen.{seen_slot}
use Rattle.sz_value.proofs.slots.Slots.truncate.Goals as goal

pub returns : goal.returns
returns c = record { value = rw (c.truncate.ensures.items, ← c.self.view_is) (sym (take-map seen_slot _ _)) }
