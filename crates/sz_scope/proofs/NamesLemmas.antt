-- Laws of the place of a name in a list of names.
use Rattle.std.proofs.Common.{◌≡◌, ℕ, zero, suc, ◌+◌, ◌<◌, ◌≤◌, ◌⊎◌, inl, inr, Bool, true, false, cond, not, ◌||◌, nat_lt, List, [], ◌∷◌, ◌++◌, length, map, slice_get, Option, None, Some, option_map, position, bytes_eq, refl, sym, ap, subst, ◌∙◌, if◌then◌else◌, arith}
use Rattle.std.specs.List.{position_or_len, list_any}
use Rattle.std.proofs.lemmas.Bool.{cases_lt, lt-ltb, le-ltb, cond-true, cond-false}
use Rattle.std.proofs.lemmas.Option.{none-some, same_Some}
use Rattle.std.proofs.lemmas.Slice.Eq.{bytes_eq-Decides}
use Rattle.std.proofs.lemmas.List.{map-append}
use Rattle.indexmap.specs.IndexSet.{insert_key}
use Rattle.sz_scope.specs.Names.{place_of, name_at}

-- a comparison of two successors
less_suc : (m n : ℕ) → nat_lt (suc m) (suc n) ≡ nat_lt m n
less_suc m n = by (cases_lt m n)
  where
    by : (m < n) ⊎ (n ≤ m) → nat_lt (suc m) (suc n) ≡ nat_lt m n
    by (inl h) = lt-ltb (suc m) (suc n) (omega (arith, h)) ∙ sym (lt-ltb m n h)
    by (inr h) = le-ltb (suc m) (suc n) (omega (arith, h)) ∙ sym (le-ltb m n h)

-- one step of `place_of` is one step of a search by position
position_step : (here : Bool) (before count : ℕ)
    → cond (nat_lt (cond (not here) (1 + before) 0) (suc count)) (Some (cond (not here) (1 + before) 0)) None
    ≡ (if here then Some 0 else option_map (λ place. suc place) (cond (nat_lt before count) (Some before) None))
position_step true before count = cond-true (nat_lt 0 (suc count)) (Some 0) None (lt-ltb 0 (suc count) (omega arith))
position_step false before count = ap (λ k. cond (nat_lt k (suc count)) (Some k) None) more
    ∙ ap (λ b. cond b (Some (suc before)) None) (less_suc before count) ∙ by (nat_lt before count)
  where
    more : 1 + before ≡ suc before
    more = omega arith

    by : (b : Bool) → cond b (Some (suc before)) None ≡ option_map (λ place. suc place) (cond b (Some before) None)
    by true = refl
    by false = refl

module _ {K : Type 0} (bytes : K → List ℕ) (name : List ℕ) where
  -- the place of a name among the bytes of keys is that of the first key with these bytes
  pub position_is : (keys : List K) → position (λ key. bytes_eq name (bytes key)) keys ≡ place_of name (map bytes keys)
  position_is [] = refl
  position_is (key ∷ keys) =
      position_step (bytes_eq name (bytes key)) (position_or_len (λ k. bytes_eq name (bytes k)) keys) (length keys)
      ∙ ap (λ r. if bytes_eq name (bytes key) then Some 0 else option_map (λ place. suc place) r) (position_is keys)

  -- where a name has no place, no key has its bytes
  pub none_has : (keys : List K) → place_of name (map bytes keys) ≡ None
      → list_any (λ key. bytes_eq name (bytes key)) keys ≡ false
  none_has [] p = refl
  none_has (key ∷ keys) p = by (bytes_eq name (bytes key)) (place_of name (map bytes keys)) (none_has keys) p
    where
      by : (here : Bool) (r : Option ℕ) → (r ≡ None → list_any (λ k. bytes_eq name (bytes k)) keys ≡ false)
          → (if here then Some 0 else option_map (λ place. suc place) r) ≡ None
          → (here || list_any (λ k. bytes_eq name (bytes k)) keys) ≡ false
      by true r rest p = absurd (none-some 0 (sym p))
      by false None rest p = rest refl
      by false (Some i) rest p = absurd (none-some (suc i) (sym p))

  -- the names after a key is added that has the bytes of a name without a place
  pub keys_added : (keys more : List K) (key : K) → bytes key ≡ name → place_of name (map bytes keys) ≡ None
      → more ≡ insert_key (λ a b. bytes_eq (bytes a) (bytes b)) keys key → map bytes more ≡ map bytes keys ++ name ∷ []
  keys_added keys more key is none added = ap (map bytes) (added ∙ new) ∙ map-append bytes keys (key ∷ [])
      ∙ ap (λ n. map bytes keys ++ n ∷ []) is
    where
      absent : list_any (λ k. bytes_eq (bytes key) (bytes k)) keys ≡ false
      absent = ap (λ n. list_any (λ k. bytes_eq n (bytes k)) keys) is ∙ none_has keys none

      new : (if list_any (λ k. bytes_eq (bytes key) (bytes k)) keys then keys else keys ++ key ∷ []) ≡ keys ++ key ∷ []
      new = cond-false (list_any (λ k. bytes_eq (bytes key) (bytes k)) keys) keys (keys ++ key ∷ []) absent

-- at the place of a name it stands
pub at_place : (name : List ℕ) (names : List (List ℕ)) (place : ℕ) → place_of name names ≡ Some place
    → (place < length names) × (slice_get names place ≡ Some name)
at_place name [] place p = absurd (none-some place p)
at_place name (other ∷ names) place p = by (bytes_eq name other) refl (place_of name names) (at_place name names) p
  where
    by : (here : Bool) → bytes_eq name other ≡ here → (r : Option ℕ)
        → ((i : ℕ) → r ≡ Some i → (i < length names) × (slice_get names i ≡ Some name))
        → (if here then Some 0 else option_map (λ i. suc i) r) ≡ Some place
        → (place < suc (length names)) × (slice_get (other ∷ names) place ≡ Some name)
    by true e r rest p =
        subst (λ i. (i < suc (length names)) × (slice_get (other ∷ names) i ≡ Some name)) (same_Some 0 place p)
        (omega arith, ap Some (sym ((bytes_eq-Decides name other).0 e)))
    by false e None rest p = absurd (none-some place p)
    by false e (Some i) rest p =
        subst (λ j. (j < suc (length names)) × (slice_get (other ∷ names) j ≡ Some name)) (same_Some (suc i) place p)
        (omega (arith, (rest i refl).0), (rest i refl).1)

-- a name keeps its place when another is added
pub place_stays : (name other : List ℕ) (names : List (List ℕ)) (place : ℕ) → place_of name names ≡ Some place
    → place_of name (names ++ other ∷ []) ≡ Some place
place_stays name other [] place p = absurd (none-some place p)
place_stays name other (first ∷ names) place p =
    by (bytes_eq name first) (place_of name names) (place_stays name other names) p
  where
    by : (here : Bool) (r : Option ℕ) → ((i : ℕ) → r ≡ Some i → place_of name (names ++ other ∷ []) ≡ Some i)
        → (if here then Some 0 else option_map (λ i. suc i) r) ≡ Some place
        → (if here then Some 0 else option_map (λ i. suc i) (place_of name (names ++ other ∷ []))) ≡ Some place
    by true r rest p = p
    by false None rest p = absurd (none-some place p)
    by false (Some i) rest p = ap (option_map (λ j. suc j)) (rest i refl) ∙ p

-- a name that is added has its place at the end
pub place_added : (name : List ℕ) (names : List (List ℕ)) → place_of name names ≡ None
    → place_of name (names ++ name ∷ []) ≡ Some (length names)
place_added name [] p = ap (λ b. if b then Some 0 else None) ((bytes_eq-Decides name name).1 refl)
place_added name (other ∷ names) p = by (bytes_eq name other) (place_of name names) (place_added name names) p
  where
    by : (here : Bool) (r : Option ℕ) → (r ≡ None → place_of name (names ++ name ∷ []) ≡ Some (length names))
        → (if here then Some 0 else option_map (λ i. suc i) r) ≡ None
        → (if here then Some 0 else option_map (λ i. suc i) (place_of name (names ++ name ∷ [])))
        ≡ Some (suc (length names))
    by true r rest p = absurd (none-some 0 (sym p))
    by false None rest p = ap (option_map (λ j. suc j)) (rest refl)
    by false (Some i) rest p = absurd (none-some (suc i) (sym p))

-- a place within the names has the same name when another is added
pub name_at_stays : (other : List ℕ) (names : List (List ℕ)) (place : ℕ) → place < length names
    → name_at (names ++ other ∷ []) place ≡ name_at names place
name_at_stays other [] place p = absurd (omega (arith, p))
name_at_stays other (first ∷ names) zero p = refl
name_at_stays other (first ∷ names) (suc place) p = name_at_stays other names place (omega (arith, p))
