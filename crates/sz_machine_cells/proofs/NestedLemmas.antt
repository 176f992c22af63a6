-- Parts of parts.
use Rattle.std.proofs.Common.{◌≡◌, ◌∙◌, ℕ, zero, suc, List, [], ◌∷◌, ◌++◌, Option, Some, None, cond, refl, sym, ap}
use Rattle.std.specs.Option.{option_and_then}
use Rattle.std.specs.Ordering.{is_eq}
use Rattle.sz_value.specs.Data.{Datum}
use Rattle.sz_value.specs.Maps.{value_at}
use Rattle.sz_value.specs.Places.{IsPlaceOf}
use Rattle.sz_machine_cells.specs.Nested.{nth, nested, value_nth}

into : (ns : List ℕ) (n : ℕ) (part : Option Datum)
    → ((d : Datum) → nested (ns ++ n ∷ []) d ≡ option_and_then (nth n) (nested ns d))
    → option_and_then (nested (ns ++ n ∷ [])) part ≡ option_and_then (nth n) (option_and_then (nested ns) part)
into ns n None deeper = refl
into ns n (Some e) deeper = deeper e

-- the place after the others leads into the part to which those lead
pub one_deeper : (ns : List ℕ) (n : ℕ) (d : Datum) → nested (ns ++ n ∷ []) d ≡ option_and_then (nth n) (nested ns d)
one_deeper [] n d = last (nth n d)
  where
    last : (part : Option Datum) → option_and_then (nested []) part ≡ part
    last None = refl
    last (Some e) = refl
one_deeper (m ∷ ns) n d = into ns n (nth m d) (one_deeper ns n)

-- at its place stands the value of a key
pub key_there : (k : Datum) (ps : List (Datum × Datum)) (i : ℕ) → IsPlaceOf k i ps → value_nth i ps ≡ value_at k ps
key_there k [] i at = absurd at
key_there k (p ∷ ps) zero at = sym (ap (λ o. cond (is_eq o) (Some p.1) (value_at k ps)) at)
key_there k (p ∷ ps) (suc i) at = key_there k ps i at.1 ∙ sym (ap (λ o. cond (is_eq o) (Some p.1) (value_at k ps)) at.0)
