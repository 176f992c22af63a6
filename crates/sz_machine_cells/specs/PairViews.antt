-- Keys and values that are looked at where they stand, as the pairs of a map.
use Rattle.std.specs.Prelude.{◌≡◌, ⊤, ℕ, ◌+◌, List, [], ◌∷◌, map, Bool, false, cond}
use Rattle.std.specs.Ordering.{is_eq, is_lt}
use Rattle.sz_value.specs.Data.{Datum}
use Rattle.sz_value.specs.Order.{compare}
use Rattle.sz_value.specs.Weight.{weight_of}
use Rattle.sz_builtin.specs.Views.{seen_view}
use Rattle.sz_machine_cells.specs.declared.maps.PairView.{PairView}

-- the plain data of a key and its value
abbrev pub seen_pair_view : PairView → Datum × Datum
seen_pair_view pair = (seen_view pair.key, seen_view pair.value)

-- the plain data of pairs
abbrev pub seen_pair_views : List PairView → List (Datum × Datum)
seen_pair_views pairs = map seen_pair_view pairs

-- what pairs weigh together
abbrev pub pairs_weight : List (Datum × Datum) → ℕ
pairs_weight [] = 0
pairs_weight (p ∷ ps) = weight_of p.0 + weight_of p.1 + pairs_weight ps

-- whether the second pair has the key of the first
abbrev pub is_followed : List (Datum × Datum) → Bool
is_followed (p ∷ q ∷ ps) = is_eq (compare p.0 q.0)
is_followed _ = false

-- the pairs after which there is none with the same key, where equal keys stand together
abbrev pub last_ones : List (Datum × Datum) → List (Datum × Datum)
last_ones [] = []
last_ones (p ∷ ps) = cond (is_followed (p ∷ ps)) (last_ones ps) (p ∷ last_ones ps)

-- no key is less than the one before it
abbrev pub DontFall : List (Datum × Datum) → Type 0
DontFall (p ∷ q ∷ ps) = (is_lt (compare q.0 p.0) ≡ false) × DontFall (q ∷ ps)
DontFall _ = ⊤
