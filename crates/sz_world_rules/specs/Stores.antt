-- Assignments into values: a path of steps leads from a variable's slot to where the new value goes.
use Rattle.std.specs.Prelude.{ℕ, pos, List, [], ◌∷◌, slice_get, slice_set, Option, Some, None, option_map}
use Rattle.sz_value.specs.Data.{Datum, int, array, tuple, mapping, data_of, entries_of, parts_of, pairs_of}
use Rattle.sz_value.specs.Maps.{value_at, with_pair}
use Rattle.sz_world_rules.specs.Slots.{Slot, all_defined}

-- a step of a path: to the element under the next index or key, or to the part at a place, counted from 0
pub data Step : Type 0 where
  by_index : Step
  by_field : ℕ → Step

-- a step with its index
pub data Way : Type 0 where
  to_element : Datum → Way
  to_part : ℕ → Way

-- the steps with their indexes, in order
abbrev pub ways_of : List Step → List Datum → List Way
ways_of [] indexes = []
ways_of (by_field n ∷ steps) indexes = to_part n ∷ ways_of steps indexes
ways_of (by_index ∷ steps) [] = []
ways_of (by_index ∷ steps) (i ∷ indexes) = to_element i ∷ ways_of steps indexes

-- the parts with a change to the one at a place, if there is such a part and the change can be made
abbrev pub with_part : List Datum → ℕ → (Slot → Option Datum) → Option (List Datum)
with_part ds n change = changed (slice_get ds n)
  where
    changed : Option Datum → Option (List Datum)
    changed None = None
    changed (Some d) = option_map (λ e. slice_set ds n e) (change (Some d))

-- a value with a change to what is one step inside it. A key that isn't there is undefined before the change.
abbrev pub with_change : Way → Datum → (Slot → Option Datum) → Option Datum
with_change (to_element (int (pos n))) (array ds) change =
    option_map (λ es. array (data_of es)) (with_part (parts_of ds) n change)
with_change (to_element key) (mapping es) change =
    option_map (λ d. mapping (entries_of (with_pair key d (pairs_of es)))) (change (value_at key (pairs_of es)))
with_change (to_part n) (tuple ds) change = option_map (λ es. tuple (data_of es)) (with_part (parts_of ds) n change)
with_change _ _ change = None

-- what a slot becomes with a new value where the ways lead. No way leads on from what is undefined, and none out of
-- an array.
abbrev pub replaced : List Way → Datum → Slot → Option Datum
replaced [] new old = Some new
replaced (way ∷ ways) new None = None
replaced (way ∷ ways) new (Some old) = with_change way old (replaced ways new)

-- what comes of a store: a value, or it used an undefined one, or it led outside of the value
pub data Stored : Type 0 where
  Holds : (value : Datum) → Stored
  Undefined : Stored
  Outside : Stored

-- the store led outside where there is no value
abbrev pub unless_outside : Option Datum → Stored
unless_outside None = Outside
unless_outside (Some d) = Holds d

-- a store with these indexes and this new value, if they are defined
abbrev pub store_of : Slot → List Step → Option (List Datum) → Slot → Stored
store_of old steps (Some indexes) (Some new) = unless_outside (replaced (ways_of steps indexes) new old)
store_of old steps _ _ = Undefined

-- what comes of a store into a slot, by steps with their indexes in order, of a new value
abbrev pub stored : Slot → List Step → List Slot → Slot → Stored
stored old steps indexes new = store_of old steps (all_defined indexes) new
