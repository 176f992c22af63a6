-- Parts of arrays and pairs of maps, as lists.
use Rattle.std.proofs.Common.{◌≡◌, ◌∙◌, ℕ, ◌+◌, Bool, true, false, nat_le, if◌then◌else◌, Some, None, List, [], ◌∷◌, ◌++◌, map, length, take, drop, refl, sym, ap}
use Rattle.std.specs.List.{slice_get}
use Rattle.std.specs.Map.{keys_of}
use Rattle.std.specs.Option.{option_map}
use Rattle.std.proofs.lemmas.List.{length-map, drop-map, take-map, take_more, map-append}
use Rattle.std.proofs.lemmas.Option.{slice_get_within, get_or_from_slice_get}
use Rattle.sz_value.specs.Seen.{seen}
use Rattle.sz_value.specs.declared.value.Value.{Value}
use Rattle.sz_builtin.specs.Places.{cut}
use Rattle.sz_value.specs.Data.{Datum, array, data_of, parts_of, entries_of, pairs_of}

-- the parts of a tuple are those that it was made of
pub parts_back : (ds : List Datum) → parts_of (data_of ds) ≡ ds
parts_back [] = refl
parts_back (d ∷ ds) = ap (λ es. d ∷ es) (parts_back ds)

-- the pairs of a map are those that it was made of
pub pairs_back : (ps : List (Datum × Datum)) → pairs_of (entries_of ps) ≡ ps
pairs_back [] = refl
pairs_back (p ∷ ps) = ap (λ qs. p ∷ qs) (pairs_back ps)

-- the keys of a front with the next pair
pub keys_taken : (ps : List (Datum × Datum)) (i : ℕ) (p : Datum × Datum) → slice_get ps i ≡ Some p
    → keys_of (take (i + 1) ps) ≡ keys_of (take i ps) ++ p.0 ∷ []
keys_taken ps i p is =
    ap keys_of (take_more ps i p (slice_get_within ps i p is)
    ∙ ap (λ q. take i ps ++ q ∷ []) (get_or_from_slice_get ps i p p is))
    ∙ map-append (λ q. q.0) (take i ps) (p ∷ [])

-- a part of the data is the data of the part
pub cut_map : {X Y : Type 0} (f : X → Y) (xs : List X) (p : ℕ × ℕ) → cut (map f xs) p ≡ option_map (map f) (cut xs p)
cut_map f xs p = rw (length-map xs f) (at (nat_le (p.0 + p.1) (length xs)))
  where
    same : take p.1 (drop p.0 (map f xs)) ≡ map f (take p.1 (drop p.0 xs))
    same = ap (take p.1) (drop-map f p.0 xs) ∙ take-map f p.1 (drop p.0 xs)

    at : (b : Bool) → (if b then Some (take p.1 (drop p.0 (map f xs))) else None)
        ≡ option_map (map f) (if b then Some (take p.1 (drop p.0 xs)) else None)
    at true = ap Some same
    at false = refl

pub array_cut : (vs part : List Value) (ds : List Datum) (p : ℕ × ℕ) → cut vs p ≡ Some part → ds ≡ map seen part
    → Some (array (data_of ds)) ≡ option_map (λ es. array (data_of es)) (cut (map seen vs) p)
array_cut vs part ds p cuts copied =
    ap (λ es. Some (array (data_of es))) copied
    ∙ sym (ap (option_map (λ es. array (data_of es))) (cut_map seen vs p ∙ ap (option_map (map seen)) cuts))
