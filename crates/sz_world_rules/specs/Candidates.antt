-- The candidates of a quantified variable: where an index, a slice's bound or a key can lead in a value.
use Rattle.std.specs.Prelude.{ℕ, zero, suc, pos, List, [], ◌∷◌, length, chars, Bool, true, false, Some, None}
use Rattle.std.specs.Map.{keys_of}
use Rattle.sz_value.specs.Data.{Datum, int, str, bytes, array, mapping, parts_of, pairs_of}
use Rattle.sz_world_rules.specs.Slots.{Slot}

-- so many whole numbers from this one on, ascending
abbrev pub numbers_from : ℕ → ℕ → List Datum
numbers_from first zero = []
numbers_from first (suc n) = int (pos first) ∷ numbers_from (suc first) n

-- the indexes of an array, a string or a byte string, and the keys of a map in their order
abbrev pub indexes_of : Datum → List Datum
indexes_of (array ds) = numbers_from 0 (length (parts_of ds))
indexes_of (str s) = numbers_from 0 (length (chars s))
indexes_of (bytes s) = numbers_from 0 (length s)
indexes_of (mapping es) = keys_of (pairs_of es)
indexes_of _ = []

-- the bounds of slices of an array, a string or a byte string: one more than it has indexes
abbrev pub bounds_of : Datum → List Datum
bounds_of (array ds) = numbers_from 0 (suc (length (parts_of ds)))
bounds_of (str s) = numbers_from 0 (suc (length (chars s)))
bounds_of (bytes s) = numbers_from 0 (suc (length s))
bounds_of _ = []

-- the candidates that a base gives, for a slice's bound or for an index; an undefined base gives none
abbrev pub candidates : Bool → Slot → List Datum
candidates slice None = []
candidates true (Some d) = bounds_of d
candidates false (Some d) = indexes_of d
