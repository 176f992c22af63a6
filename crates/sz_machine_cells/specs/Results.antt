-- What is made of operands whose values are at hand.
use Rattle.std.specs.Prelude.{◌≡◌, ℕ, ℤ, ◌+◌, ◌-◌, ◌^◌, min, List, [], ◌∷◌, Option, Some, None, option_map}
use Rattle.sz_value.specs.Data.{Datum, int, array, tuple, data_of}
use Rattle.sz_world_rules.specs.Slots.{Slot}
use Rattle.sz_value.specs.Weight.{data_weight}
use Rattle.sz_world_rules.specs.Operations.{slice_of}
use Rattle.sz_world_rules.specs.Ticks.{result_weight}

-- the array of these elements, if they are all defined
abbrev pub array_of_all : Option (List Datum) → Slot
array_of_all elements = option_map (λ ds. array (data_of ds)) elements

-- the tuple of these parts, if they are all defined
abbrev pub tuple_of_all : Option (List Datum) → Slot
tuple_of_all parts = option_map (λ ds. tuple (data_of ds)) parts

-- the pairs of keys and values that stand by turns
abbrev pub by_turns : List Datum → List (Datum × Datum)
by_turns (key ∷ value ∷ rest) = (key, value) ∷ by_turns rest
by_turns _ = []

-- the values of those slots that are defined
abbrev pub defined_of : List Slot → List Datum
defined_of [] = []
defined_of (None ∷ slots) = defined_of slots
defined_of (Some d ∷ slots) = d ∷ defined_of slots

-- the key that has no value yet, of keys and values that stand by turns
abbrev pub left_over : List Datum → Option Datum
left_over [] = None
left_over (key ∷ []) = Some key
left_over (key ∷ value ∷ rest) = left_over rest

-- these are the pairs of keys and values that stand by turns, and the key that has no value yet
pub record ArePaired (parts : List Datum) (pairs : List (Datum × Datum)) (key : Option Datum) : Type 0 where
  pub paired : pairs ≡ by_turns parts
  pub waits : key ≡ left_over parts

-- what slots weigh together: an undefined one weighs nothing
abbrev pub slots_weight : List Slot → ℕ
slots_weight [] = 0
slots_weight (x ∷ xs) = result_weight x + slots_weight xs

-- what an array or a tuple of these parts weighs, if they are all defined; else there is none, and it weighs nothing
abbrev pub composite_weight : Option (List Datum) → ℕ
composite_weight None = 0
composite_weight (Some ds) = min (1 + data_weight (data_of ds)) (2 ^ 64 - 1)

-- the two topmost slots were these places; they and the slot below them gave way to that slot's part between the
-- places, which weighs so much
pub record IsCut (from to : ℤ) (weight : ℕ) (old new : List Slot) : Type 0 where
  pub base : Slot
  pub below : List Slot
  pub was : old ≡ Some (int to) ∷ Some (int from) ∷ base ∷ below
  pub is : new ≡ slice_of base (Some (int from)) (Some (int to)) ∷ below
  pub weighs : weight ≡ result_weight (slice_of base (Some (int from)) (Some (int to)))
