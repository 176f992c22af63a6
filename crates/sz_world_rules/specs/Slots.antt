-- Slots: what variables, statics and operands hold, a value or nothing, which is undefined.
use Rattle.std.specs.Prelude.{ℕ, ◌-◌, List, [], ◌∷◌, ◌++◌, length, map, replicate, slice_get, Option, Some, None, option_map, unwrap_or}
use Rattle.sz_value.specs.Data.{Datum}

-- a value, or undefined
abbrev pub Slot : Type 0
Slot = Option Datum

-- the slot with this number, undefined where there is none
abbrev pub slot_at : List Slot → ℕ → Slot
slot_at slots n = unwrap_or (slice_get slots n) None

-- the values, if all slots are defined
abbrev pub all_defined : List Slot → Option (List Datum)
all_defined [] = Some []
all_defined (None ∷ slots) = None
all_defined (Some d ∷ slots) = option_map (λ ds. d ∷ ds) (all_defined slots)

-- what is made of two values, undefined where one of them is
abbrev pub of_two : (Datum → Datum → Slot) → Slot → Slot → Slot
of_two f None y = None
of_two f (Some a) None = None
of_two f (Some a) (Some b) = f a b

-- so many slots, all undefined
abbrev pub undefined_slots : ℕ → List Slot
undefined_slots n = replicate n None

-- so many variables: the first ones have these values, and the others are undefined
abbrev pub fresh : ℕ → List Datum → List Slot
fresh n arguments = map (λ d. Some d) arguments ++ undefined_slots (n - length arguments)
