-- Candidates that are numbers, or the keys of a map from a place on.
use Rattle.std.proofs.Common.{◌≡◌, ◌∙◌, ◌==◌, ℕ, zero, suc, ◌+◌, ◌-◌, ◌<◌, ◌≤◌, nat_le, pos, List, [], ◌∷◌, ◌++◌, length, map, drop, reverse, Bool, true, false, Some, None, unwrap_or, refl, sym, ap, arith}
use Rattle.std.specs.Prelude.{slice_get, option_map}
use Rattle.std.specs.Map.{keys_of}
use Rattle.std.proofs.lemmas.List.{map-append, append_assoc, append-nil, drop_all}
use Rattle.std.proofs.Math.Dec.{leb-zero, leb-suc-zero, leb-suc-suc, eqb-suc-zero}
use Rattle.sz_value.specs.Data.{Datum, int, array, data_of}
use Rattle.sz_value.specs.Seen.{seen}
use Rattle.sz_value.specs.declared.value.Value.{Value}
use Rattle.sz_world_rules.specs.Candidates.{candidates, numbers_from}
use Rattle.sz_machine_cells.specs.Candidates.{numbers_of}
use Rattle.sz_builtin.proofs.Parts.{parts_back}
use Rattle.sz_machine_cells.proofs.ListLemmas.{keys_back}

-- the candidates of an array
pub of_array : (slice : Bool) (ds : List Datum)
    → candidates slice (Some (array (data_of ds))) ≡ numbers_of slice (length ds)
of_array true ds = ap (λ es. numbers_from 0 (suc (length es))) (parts_back ds)
of_array false ds = ap (λ es. numbers_from 0 (length es)) (parts_back ds)

-- the next of the numbers
pub number_next : (first count : ℕ) → 0 < count
    → numbers_from first count ≡ int (pos first) ∷ numbers_from (first + 1) (count - 1)
number_next first zero h = absurd (omega (arith, h))
number_next first (suc n) h =
    let further : suc first ≡ first + 1 = omega arith in
    let fewer : n ≡ suc n - 1 = omega arith in
    λ i. int (pos first) ∷ numbers_from (further i) (fewer i)

-- the key at a place, and those after it
pub key_after : (ks : List Datum) (n : ℕ) (v : Value) → Some (seen v) ≡ slice_get ks n
    → drop n ks ≡ seen v ∷ drop (n + 1) ks
key_after [] n v e = absurd (cc)
key_after (k ∷ ks) zero v e = ap (λ o. unwrap_or o k ∷ ks) (sym e)
key_after (k ∷ ks) (suc n) v e =
    let later : suc n + 1 ≡ suc (n + 1) = omega arith in
    key_after ks n v e ∙ ap (λ m. seen v ∷ drop m (k ∷ ks)) (sym later)

-- where there is no key at a place, there is none after it
pub no_key_after : (ks : List Datum) (n : ℕ) → None ≡ slice_get ks n → drop n ks ≡ []
no_key_after [] zero e = refl
no_key_after [] (suc n) e = refl
no_key_after (k ∷ ks) zero e = absurd (cc)
no_key_after (k ∷ ks) (suc n) e = no_key_after ks n e

-- no key is left at a place just where it is after them all
pub none_after : (ks : List Datum) (n : ℕ) → nat_le (length ks) n ≡ (length (drop n ks) == 0)
none_after [] zero = refl
none_after [] (suc n) = leb-zero (suc n)
none_after (k ∷ ks) zero = leb-suc-zero (length ks) ∙ sym (eqb-suc-zero (length ks))
none_after (k ∷ ks) (suc n) = leb-suc-suc (length ks) n ∙ none_after ks n

-- a map has as many keys as pairs
pub keys_count : (ps : List (Datum × Datum)) → length (keys_of ps) ≡ length ps
keys_count [] = refl
keys_count (p ∷ ps) = ap suc (keys_count ps)

-- the key at a place is that of the pair there
pub key_nth : (ps : List (Datum × Datum)) (n : ℕ) → option_map (λ p. p.0) (slice_get ps n) ≡ slice_get (keys_of ps) n
key_nth [] n = refl
key_nth (p ∷ ps) zero = refl
key_nth (p ∷ ps) (suc n) = key_nth ps n

-- a key that is copied is no more among those that are left
pub key_copied : (vs : List Value) (v : Value) (ps : List (Datum × Datum)) (p : Datum × Datum) (n : ℕ)
    → slice_get ps n ≡ Some p → seen v ≡ p.0
    → map seen (vs ++ v ∷ []) ++ drop (n + 1) (keys_of ps) ≡ map seen vs ++ drop n (keys_of ps)
key_copied vs v ps p n at copied =
    let here : Some (seen v) ≡ slice_get (keys_of ps) n =
    ap Some copied ∙ sym (ap (option_map (λ q. q.0)) at) ∙ key_nth ps n in
    rw (map-append, append_assoc) (ap (λ ks. map seen vs ++ ks) (sym (key_after (keys_of ps) n v here)))

-- after the last pair all keys are copied, and turned round twice
pub all_copied : (vs : List Value) (ps : List (Datum × Datum)) (n : ℕ) → length ps ≤ n
    → reverse (map seen (reverse vs)) ≡ map seen vs ++ drop n (keys_of ps)
all_copied vs ps n past =
    let none : drop n (keys_of ps) ≡ [] = drop_all n (keys_of ps) (omega (arith, past, keys_count ps)) in
    keys_back vs ∙ sym (ap (λ ks. map seen vs ++ ks) none ∙ append-nil (map seen vs))
