-- The keys of a slot that is a map.
use Rattle.std.specs.Prelude.{List, [], Some}
use Rattle.std.specs.Map.{keys_of}
use Rattle.sz_value.specs.Data.{Datum, mapping, pairs_of}
use Rattle.sz_world_rules.specs.Slots.{Slot}

-- the keys of a map, in their order; of anything else there are none
abbrev pub keys_in : Slot → List Datum
keys_in (Some (mapping es)) = keys_of (pairs_of es)
keys_in _ = []
