-- Places to which further records lead, one after the other.
use Rattle.std.proofs.Common.{◌≡◌, ℕ, zero, suc, ◌+◌, ◌-◌, ◌<◌, List, [], ◌∷◌, ◌++◌, drop, get_or, Some, sym, ap, ◌∙◌, arith}
use Rattle.std.specs.Prelude.{slice_get}
use Rattle.sz_records.specs.Cutting.{places_of}

-- places, and those after them
pub places_append : (place : ℕ → ℕ) (i n m : ℕ)
    → places_of place i n ++ places_of place (i + n) m ≡ places_of place i (n + m)
places_append place i zero m =
    ap (λ k. places_of place k m) (let same : i + 0 ≡ i = omega arith in same)
    ∙ ap (places_of place i) (let same : m ≡ 0 + m = omega arith in same)
places_append place i (suc n) m =
    ap (λ l. place (suc i) ∷ l)
    (ap (λ k. places_of place (suc i) n ++ places_of place k m) (let same : i + suc n ≡ suc i + n = omega arith in same)
    ∙ places_append place (suc i) n m)
    ∙ ap (places_of place i) (let same : suc (n + m) ≡ suc n + m = omega arith in same)

-- places behind others
pub places_later : (place : ℕ → ℕ) (i n m : ℕ) → drop n (places_of place i m) ≡ places_of place (i + n) (m - n)
places_later place i zero m =
    ap (λ k. places_of place k m) (let same : i ≡ i + 0 = omega arith in same)
    ∙ ap (places_of place (i + 0)) (let same : m ≡ m - 0 = omega arith in same)
places_later place i (suc n) zero = let none : 0 ≡ 0 - suc n = omega arith in ap (places_of place (i + suc n)) none
places_later place i (suc n) (suc m) =
    places_later place (suc i) n m
    ∙ ap (λ k. places_of place k (m - n)) (let same : suc i + n ≡ i + suc n = omega arith in same)
    ∙ ap (places_of place (i + suc n)) (let same : m - n ≡ suc m - suc n = omega arith in same)

-- one of so many places
pub last_place : (place : ℕ → ℕ) (i count j : ℕ) → j < count → get_or (places_of place i count) j 0 ≡ place (i + suc j)
last_place place i zero j less = absurd (omega (arith, less))
last_place place i (suc count) zero less = let same : suc i ≡ i + 1 = omega arith in ap place same
last_place place i (suc count) (suc j) less =
    last_place place (suc i) count j (omega (arith, less))
    ∙ ap place (let same : suc i + suc j ≡ i + suc (suc j) = omega arith in same)

-- what stands there
pub got_there : (l : List ℕ) (i x : ℕ) → slice_get l i ≡ Some x → x ≡ get_or l i 0
got_there [] i x is = absurd cc
got_there (y ∷ l) zero x is = (let same : y ≡ x = cc in sym same)
got_there (y ∷ l) (suc i) x is = got_there l i x is
