-- Parts of data, by the places that lead to them.
use Rattle.std.specs.Prelude.{ℕ, List, [], ◌∷◌, Option, Some, None, option_map, slice_get}
use Rattle.std.specs.Option.{option_and_then}
use Rattle.sz_value.specs.Data.{Datum, array, tuple, mapping, parts_of, pairs_of}

-- the value of the pair at a place
abbrev pub value_nth : ℕ → List (Datum × Datum) → Option Datum
value_nth n pairs = option_map (λ p. p.1) (slice_get pairs n)

-- the part at a place of an array or a tuple, or the value of the pair at a place of a map
abbrev pub nth : ℕ → Datum → Option Datum
nth n (array ds) = slice_get (parts_of ds) n
nth n (tuple ds) = slice_get (parts_of ds) n
nth n (mapping es) = value_nth n (pairs_of es)
nth n _ = None

-- the part to which places lead, one inside the other
abbrev pub nested : List ℕ → Datum → Option Datum
nested [] d = Some d
nested (n ∷ ns) d = option_and_then (nested ns) (nth n d)
