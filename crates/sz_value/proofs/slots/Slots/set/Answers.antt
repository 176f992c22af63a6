-- A slot that is put in place is seen in place.
use Rattle.std.proofs.lemmas.List.{map-set}
use Rattle.sz_value.specs.Seen.{seen_slot}
use Rattle.sz_value.proofs.slots.Slots.set.Goals as goal

pub returns : goal.returns
returns c = record { value = rw (← c.self.view_is) (map-set seen_slot _ _ _) }
