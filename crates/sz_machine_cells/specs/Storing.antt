-- Values with a change where a path leads in them.
use Rattle.std.specs.Prelude.{ℕ, List, map, Option, Some, None, option_map, Bool, true, false}
use Rattle.sz_value.specs.Data.{Datum}
use Rattle.sz_value.specs.Maps.{value_at, with_pair}
use Rattle.sz_instr.specs.declared.step.Step.{Step}
use Rattle.sz_world_rules.specs.Slots.{Slot}
use Rattle.sz_world_rules.specs.Stores.{ways_of, with_part, replaced}
use Rattle.sz_instr.specs.Rows.{step_of}

-- what a slot becomes with a new value where the steps with these indexes lead, if they lead somewhere
abbrev pub replaced_by : List Step → List Datum → Datum → Slot → Option Datum
replaced_by steps indexes new old = replaced (ways_of (map step_of steps) indexes) new old

-- the parts with such a change to the one at a place
abbrev pub part_replaced : List Datum → ℕ → List Step → List Datum → Datum → Option (List Datum)
part_replaced parts n steps indexes new = with_part parts n (replaced_by steps indexes new)

-- the pairs with such a change to the value at a key
abbrev pub pair_replaced : List (Datum × Datum) → Datum → List Step → List Datum → Datum → Option (List (Datum × Datum))
pair_replaced pairs key steps indexes new =
    option_map (λ d. with_pair key d pairs) (replaced_by steps indexes new (value_at key pairs))

-- the slot of a value
abbrev pub defined : Datum → Slot
defined d = Some d

-- the value, if this is said of it
abbrev pub told : Bool → Datum → Option Datum
told true d = Some d
told false d = None
