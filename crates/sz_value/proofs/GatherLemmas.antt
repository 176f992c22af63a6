-- Pairs that are put in one after another make the same map in each order that keeps the pairs of one key as they
-- stand.
use Rattle.std.proofs.Common.{◌≡◌, ◌≢◌, ◌∙◌, ◌⊎◌, inl, inr, Bool, true, false, cond, not, ◌&&◌, Option, Some, None, List, [], ◌∷◌, ◌++◌, map, filter, refl, sym, ap, subst}
use Rattle.std.specs.List.Sorted.{IsStrictlySortedBy, IsStableBy, ties}
use Rattle.std.specs.Cmp.{IsStrictWeakOrder}
use Rattle.std.specs.Ordering.{is_eq, is_lt}
use Rattle.std.specs.declared.cmp.Ordering.{Ordering}
use Rattle.std.specs.declared.cmp.Ordering.TheVariants.{Less, Equal, Greater}
use Rattle.std.specs.Map.{keys_of}
use Rattle.std.proofs.lemmas.List.Elements.{filter_agree}
use Rattle.std.proofs.lemmas.List.MinMax.{ranks_by}
use Rattle.sz_value.specs.Data.{Datum}
use Rattle.sz_value.specs.Order.{compare, KeysRise}
use Rattle.sz_value.specs.Total.{compare_total, compare_ties, compare_itself}
use Rattle.sz_value.specs.Maps.{value_at, with_pair, with_pairs}
use Rattle.sz_value.specs.Seen.{seen, seen_pair}
use Rattle.sz_value.specs.declared.value.Pair.{Pair}
use Rattle.sz_value.proofs.MapLemmas.{turned, value_below, below_all, keys_rise, first_hit, first_miss, value_put, value_kept}

-- one pair more after the others
pub with_one_more : (ps qs : List (Datum × Datum)) (q : Datum × Datum)
    → with_pairs ps (qs ++ q ∷ []) ≡ with_pair q.0 q.1 (with_pairs ps qs)
with_one_more ps [] q = refl
with_one_more ps (p ∷ qs) q = with_one_more (with_pair p.0 p.1 ps) qs q

-- the keys still rise
all_rise : (qs ps : List (Datum × Datum)) → KeysRise ps → KeysRise (with_pairs ps qs)
all_rise [] ps rise = rise
all_rise (q ∷ qs) ps rise = all_rise qs (with_pair q.0 q.1 ps) (keys_rise q.0 q.1 ps rise)

-- the value of the last pair, or what was found before where there is none
abbrev last_value : Option Datum → List (Datum × Datum) → Option Datum
last_value found [] = found
last_value found (p ∷ ps) = last_value (Some p.1) ps

-- keys that compare otherwise than equal differ
less_apart : (k d : Datum) → compare k d ≡ Less → k ≢ d
less_apart k d is same = let e = sym is ∙ compare_itself k d same in cc

greater_apart : (k d : Datum) → compare k d ≡ Greater → k ≢ d
greater_apart k d is same = let e = sym is ∙ compare_itself k d same in cc

module _ (k : Datum) where
  -- whether a pair has the key
  abbrev has_key : Datum × Datum → Bool
  has_key p = is_eq (compare k p.0)

  put_chosen : (p : Datum × Datum) (ps : List (Datum × Datum)) (o : Ordering) → compare k p.0 ≡ o
      → value_at k (with_pair p.0 p.1 ps) ≡ cond (is_eq o) (Some p.1) (value_at k ps)
  put_chosen p ps Less is = value_kept p.0 p.1 k ps (less_apart k p.0 is)
  put_chosen p ps Equal is =
      subst (λ d. value_at d (with_pair p.0 p.1 ps) ≡ Some p.1) (sym (compare_ties k p.0 is)) (value_put p.0 p.1 ps)
  put_chosen p ps Greater is = value_kept p.0 p.1 k ps (greater_apart k p.0 is)

  -- at a key stands the value of the last pair that has it
  value_of_all : (qs ps : List (Datum × Datum))
      → value_at k (with_pairs ps qs) ≡ last_value (value_at k ps) (filter has_key qs)
  value_of_all [] ps = refl
  value_of_all (q ∷ qs) ps =
      value_of_all qs (with_pair q.0 q.1 ps)
      ∙ ap (λ found. last_value found (filter has_key qs)) (put_chosen q ps (compare k q.0) refl)
      ∙ by_test (has_key q)
    where
      by_test : (b : Bool) → last_value (cond b (Some q.1) (value_at k ps)) (filter has_key qs)
          ≡ last_value (value_at k ps) (cond b (q ∷ filter has_key qs) (filter has_key qs))
      by_test true = refl
      by_test false = refl

-- each look-up finds the same
abbrev Alike : List (Datum × Datum) → List (Datum × Datum) → Type 0
Alike ps qs = (k : Datum) → value_at k ps ≡ value_at k qs

hit_first : (p : Datum × Datum) (ps : List (Datum × Datum)) → value_at p.0 (p ∷ ps) ≡ Some p.1
hit_first p ps = first_hit p.0 p.1 p.0 p.1 ps (compare_itself p.0 p.0 refl)

module _ (p q : Datum × Datum) (ps qs : List (Datum × Datum)) (left : KeysRise (p ∷ ps)) (right : KeysRise (q ∷ qs))
    (alike : Alike (p ∷ ps) (q ∷ qs)) where
  same_key : p.0 ≡ q.0
  unfolding IsStrictlySortedBy
  same_key = by_found (compare p.0 q.0) refl
    where
      by_found : (o : Ordering) → compare p.0 q.0 ≡ o → p.0 ≡ q.0
      by_found Less is =
          let e = sym (hit_first p ps) ∙ alike p.0
          ∙ value_below p.0 (q ∷ qs) (is, below_all p.0 q.0 (keys_of qs) is right.0) in cc
      by_found Equal is = compare_ties p.0 q.0 is
      by_found Greater is =
          let back = turned p.0 q.0 Greater is in
          let e = sym (hit_first q qs) ∙ sym (alike q.0)
          ∙ value_below q.0 (p ∷ ps) (back, below_all q.0 p.0 (keys_of ps) back left.0) in cc

  same_value : p.0 ≡ q.0 → p.1 ≡ q.1
  same_value same =
      let e : Some p.1 ≡ Some q.1 =
      sym (hit_first p ps) ∙ alike p.0 ∙ first_hit p.0 p.1 q.0 q.1 qs (compare_itself p.0 q.0 same) in cc

  tails_alike : p.0 ≡ q.0 → Alike ps qs
  unfolding IsStrictlySortedBy
  tails_alike same k = by_found (compare k p.0) refl
    where
      apart_too : k ≢ p.0 → value_at k ps ≡ value_at k qs
      apart_too other =
          sym (first_miss p.0 p.1 k p.0 p.1 ps other) ∙ alike k
          ∙ first_miss p.0 p.1 k q.0 q.1 qs (λ e. other (e ∙ sym same))

      by_found : (o : Ordering) → compare k p.0 ≡ o → value_at k ps ≡ value_at k qs
      by_found Less is = apart_too (less_apart k p.0 is)
      by_found Equal is =
          let first = compare_ties k p.0 is in
          subst (λ d. value_at d ps ≡ None) (sym first) (value_below p.0 ps left.0)
          ∙ sym (subst (λ d. value_at d qs ≡ None) (sym (first ∙ same)) (value_below q.0 qs right.0))
      by_found Greater is = apart_too (greater_apart k p.0 is)

-- pairs with rising keys are told by their look-ups
rising_alike : (ps qs : List (Datum × Datum)) → KeysRise ps → KeysRise qs → Alike ps qs → ps ≡ qs
unfolding IsStrictlySortedBy
rising_alike [] [] left right alike = refl
rising_alike [] (q ∷ qs) left right alike = let e = alike q.0 ∙ hit_first q qs in cc
rising_alike (p ∷ ps) [] left right alike = let e = sym (alike p.0) ∙ hit_first p ps in cc
rising_alike (p ∷ ps) (q ∷ qs) left right alike =
    let same = same_key p q ps qs left right alike in
    let value = same_value p q ps qs left right alike same in
    let after = tails_alike p q ps qs left right alike same in
    λ i. (same i, value i) ∷ rising_alike ps qs left.1 right.1 after i

-- the key of the one pair is less than that of the other
abbrev pub key_less : Pair → Pair → Bool
key_less one two = is_lt (compare (seen one.key) (seen two.key))

pub keys_ordered : IsStrictWeakOrder key_less
keys_ordered = ranks_by compare_total (λ (p : Pair). seen p.key)

-- the pairs of a key, as they are seen
filter_seen : (k : Datum) (xs : List Pair)
    → filter (has_key k) (map seen_pair xs) ≡ map seen_pair (filter (λ p. has_key k (seen_pair p)) xs)
filter_seen k [] = refl
filter_seen k (x ∷ xs) = by_test (has_key k (seen_pair x)) (filter_seen k xs)
  where
    by_test : (b : Bool)
        → filter (has_key k) (map seen_pair xs) ≡ map seen_pair (filter (λ p. has_key k (seen_pair p)) xs)
        → cond b (seen_pair x ∷ filter (has_key k) (map seen_pair xs)) (filter (has_key k) (map seen_pair xs))
        ≡ map seen_pair
        (cond b (x ∷ filter (λ p. has_key k (seen_pair p)) xs) (filter (λ p. has_key k (seen_pair p)) xs))
    by_test true e = ap (λ l. seen_pair x ∷ l) e
    by_test false e = e

-- neither key is less where they are equal
neither_less : (v p : Pair) → ties key_less v p ≡ has_key (seen v.key) (seen_pair p)
neither_less v p = by_found (compare (seen v.key) (seen p.key)) refl
  where
    by_found : (o : Ordering) → compare (seen v.key) (seen p.key) ≡ o
        → (not (is_lt o) && not (is_lt (compare (seen p.key) (seen v.key)))) ≡ is_eq o
    by_found Less is = refl
    by_found Equal is = ap (λ o. not (is_lt o)) (turned (seen v.key) (seen p.key) Equal is)
    by_found Greater is = ap (λ o. not (is_lt o)) (turned (seen v.key) (seen p.key) Greater is)

-- a pair that has the key, if there is one
abbrev Holder : Datum → Type 0
Holder k = (v : Pair) × (compare k (seen v.key) ≡ Equal)

some_holder : (k : Datum) (xs : List Pair) → Holder k ⊎ (filter (has_key k) (map seen_pair xs) ≡ [])
some_holder k [] = inr refl
some_holder k (x ∷ xs) = by_found (compare k (seen x.key)) refl (some_holder k xs)
  where
    by_found : (o : Ordering) → compare k (seen x.key) ≡ o → Holder k ⊎ (filter (has_key k) (map seen_pair xs) ≡ [])
        → Holder k ⊎ (cond (is_eq o) (seen_pair x ∷ filter (has_key k) (map seen_pair xs))
        (filter (has_key k) (map seen_pair xs)) ≡ [])
    by_found Less is rest = rest
    by_found Equal is rest = inl (x, is)
    by_found Greater is rest = rest

module _ (xs ys : List Pair) (stable : IsStableBy key_less xs ys) where
  found_alike : (v : Pair)
      → filter (has_key (seen v.key)) (map seen_pair ys) ≡ filter (has_key (seen v.key)) (map seen_pair xs)
  found_alike v =
      filter_seen (seen v.key) ys
      ∙ ap (map seen_pair)
      (sym (filter_agree (ties key_less v) (λ p. has_key (seen v.key) (seen_pair p)) (neither_less v) ys) ∙ stable v
      ∙ filter_agree (ties key_less v) (λ p. has_key (seen v.key) (seen_pair p)) (neither_less v) xs)
      ∙ sym (filter_seen (seen v.key) xs)

  by_holder : (k : Datum) → Holder k → filter (has_key k) (map seen_pair ys) ≡ filter (has_key k) (map seen_pair xs)
  by_holder k holder =
      subst (λ d. filter (has_key d) (map seen_pair ys) ≡ filter (has_key d) (map seen_pair xs))
      (sym (compare_ties k (seen holder.0.key) holder.1)) (found_alike holder.0)

  keys_alike : (k : Datum) → filter (has_key k) (map seen_pair ys) ≡ filter (has_key k) (map seen_pair xs)
  keys_alike k = by_each (some_holder k xs) (some_holder k ys)
    where
      by_each : Holder k ⊎ (filter (has_key k) (map seen_pair xs) ≡ [])
          → Holder k ⊎ (filter (has_key k) (map seen_pair ys) ≡ [])
          → filter (has_key k) (map seen_pair ys) ≡ filter (has_key k) (map seen_pair xs)
      by_each (inl holder) other = by_holder k holder
      by_each (inr none) (inl holder) = by_holder k holder
      by_each (inr none) (inr neither) = neither ∙ sym none

  -- pairs that are sorted by their keys, with those of one key in their order, make the same map
  pub sorted_alike : with_pairs [] (map seen_pair ys) ≡ with_pairs [] (map seen_pair xs)
  unfolding IsStrictlySortedBy
  sorted_alike =
      rising_alike _ _ (all_rise (map seen_pair ys) [] tt) (all_rise (map seen_pair xs) [] tt) (λ k.
      value_of_all k (map seen_pair ys) [] ∙ ap (last_value None) (keys_alike k)
      ∙ sym (value_of_all k (map seen_pair xs) []))
