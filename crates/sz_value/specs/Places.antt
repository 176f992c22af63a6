-- Where a key stands among pairs with rising keys, and where it would go.
use Rattle.std.specs.Prelude.{◌≡◌, ℕ, zero, suc, ⊤, List, [], ◌∷◌}
use Rattle.std.specs.declared.cmp.Ordering.TheVariants.{Less, Equal, Greater}
use Rattle.sz_value.specs.Data.{Datum}
use Rattle.sz_value.specs.Order.{compare}

-- the key is that at the place, and all before it are less
abbrev pub IsPlaceOf : Datum → ℕ → List (Datum × Datum) → Type 0
IsPlaceOf key place [] = ⊥
IsPlaceOf key zero (p ∷ ps) = compare key p.0 ≡ Equal
IsPlaceOf key (suc place) (p ∷ ps) = (compare key p.0 ≡ Greater) × IsPlaceOf key place ps

-- the keys before the place are less, and that at the place, if there is one, is greater
abbrev pub IsGapFor : Datum → ℕ → List (Datum × Datum) → Type 0
IsGapFor key zero [] = ⊤
IsGapFor key (suc place) [] = ⊥
IsGapFor key zero (p ∷ ps) = compare key p.0 ≡ Less
IsGapFor key (suc place) (p ∷ ps) = (compare key p.0 ≡ Greater) × IsGapFor key place ps
