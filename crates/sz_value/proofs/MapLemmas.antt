-- What a search among rising keys finds, and what an edit at that place does.
use Rattle.std.proofs.Common.{◌≡◌, ◌≢◌, ℕ, zero, suc, ◌<◌, ◌≤◌, List, [], ◌∷◌, length, set, map, get_or, Some, None, Result, Ok, Err, IfOk, IfErr, cond, refl, sym, ap, ◌∙◌, subst, arith}
use Rattle.std.specs.List.{insert, AllByRecursion}
use Rattle.std.specs.List.Sorted.{IsStrictlySortedBy, IsNonDecreasingBy, IsSearchInRange, IsBinarySearchResult}
use Rattle.std.specs.Ordering.{ordering_index, ordering_reverse, match_ordering, is_eq}
use Rattle.std.specs.declared.cmp.Ordering.{Ordering}
use Rattle.std.specs.declared.cmp.Ordering.TheVariants.{Less, Equal, Greater}
use Rattle.std.specs.Map.{keys_of}
use Rattle.std.proofs.lemmas.List.{map-set}
use Rattle.sz_value.specs.Data.{Datum}
use Rattle.sz_value.specs.Order.{compare, KeysRise}
use Rattle.sz_value.specs.Total.{compare_total, compare_ties, compare_itself}
use Rattle.sz_value.specs.Maps.{value_at, with_pair}
use Rattle.sz_value.specs.Places.{IsPlaceOf, IsGapFor}
use Rattle.sz_value.specs.Seen.{seen, seen_pair}
use Rattle.sz_value.specs.declared.value.Value.{Value}
use Rattle.sz_value.specs.declared.value.Pair.{Pair}

-- a comparison turned round
pub turned : (d e : Datum) (found : Ordering) → compare d e ≡ found → compare e d ≡ ordering_reverse found
turned d e found is = compare_total.antisymm e d ∙ ap ordering_reverse is

-- what is less than the lesser stands no later against a third
pub index_rises : (a b k : Datum) → compare a b ≡ Less → (found : Ordering) → compare b k ≡ found
    → ordering_index (compare a k) ≤ ordering_index found
index_rises a b k less Less is = rw (compare_total.trans a b k less is) (omega arith)
index_rises a b k less Equal is = rw (subst (λ x. compare a x ≡ Less) (compare_ties b k is) less) (omega arith)
index_rises a b k less Greater is = index_at_most (compare a k)
  where
    index_at_most : (o : Ordering) → ordering_index o ≤ 2
    index_at_most Less = omega arith
    index_at_most Equal = omega arith
    index_at_most Greater = omega arith

module _ (k : Datum) where
  -- where a pair's key stands against k
  abbrev index_of : Pair → ℕ
  index_of p = ordering_index (compare (seen p.key) k)

  -- each key of the list is greater
  later_at : (p : Pair) (ps : List Pair) (j : ℕ) (d : Pair)
      → AllByRecursion (λ q. compare (seen p.key) q ≡ Less) (keys_of (map seen_pair ps)) → j < length ps
      → compare (seen p.key) (seen (get_or ps j d).key) ≡ Less
  later_at p [] j d all within = absurd (omega arith)
  later_at p (q ∷ ps) zero d all within = all.0
  later_at p (q ∷ ps) (suc j) d all within = later_at p ps j d all.1 (omega arith)

  -- the comparisons with k rise along the pairs
  pub comparisons_rise : (ps : List Pair) → KeysRise (map seen_pair ps) → IsNonDecreasingBy index_of ps
  unfolding IsStrictlySortedBy
  comparisons_rise [] rise i j d order within = absurd (omega arith)
  comparisons_rise (p ∷ ps) rise zero zero d order within = omega arith
  comparisons_rise (p ∷ ps) rise zero (suc j) d order within =
      index_rises (seen p.key) (seen (get_or ps j d).key) k (later_at p ps j d rise.0 (omega arith))
      (compare (seen (get_or ps j d).key) k) refl
  comparisons_rise (p ∷ ps) rise (suc i) zero d order within = absurd (omega arith)
  comparisons_rise (p ∷ ps) rise (suc i) (suc j) d order within =
      comparisons_rise ps rise.1 i j d (omega arith) (omega arith)

  -- a search that hits has found the place of k
  pub place_found : (ps : List Pair) (i : ℕ) → KeysRise (map seen_pair ps) → i < length ps
      → ((d : Pair) → compare (seen (get_or ps i d).key) k ≡ Equal)
      → IsPlaceOf k i (map seen_pair ps)
  unfolding IsStrictlySortedBy
  place_found [] i rise within here = omega arith
  place_found (p ∷ ps) zero rise within here = turned (seen p.key) k Equal (here p)
  place_found (p ∷ ps) (suc i) rise within here = (
    turned (seen p.key) k Less
        (subst (λ x. compare (seen p.key) x ≡ Less) (compare_ties (seen (get_or ps i p).key) k (here p))
        (later_at p ps i p rise.0 (omega arith))),
    place_found ps i rise.1 (omega arith) here,
  )

  -- a search that misses has found the gap for k
  pub gap_found : (ps : List Pair) (i : ℕ) → i ≤ length ps
      → ((j : ℕ) (d : Pair) → 0 ≤ j → j < i → compare (seen (get_or ps j d).key) k ≡ Less)
      → ((j : ℕ) (d : Pair) → i ≤ j → j < length ps → compare (seen (get_or ps j d).key) k ≡ Greater)
      → IsGapFor k i (map seen_pair ps)
  gap_found [] zero within before after = tt
  gap_found [] (suc i) within before after = omega arith
  gap_found (p ∷ ps) zero within before after = turned (seen p.key) k Greater (after 0 p (omega arith) (omega arith))
  gap_found (p ∷ ps) (suc i) within before after = (
    turned (seen p.key) k Less (before 0 p (omega arith) (omega arith)),
    gap_found ps i (omega arith) (λ j d low high. before (suc j) d (omega arith) (omega arith))
        (λ j d low high. after (suc j) d (omega arith) (omega arith)),
  )

  -- a search by halving ends at the place of k, or at the gap for it
  pub searched : (ps : List Pair) (r : Result ℕ ℕ) → KeysRise (map seen_pair ps) → IsSearchInRange r (length ps)
      → IsBinarySearchResult (λ p. compare (seen p.key) k) ps r
      → record {
        found : IfOk r (λ i. IsPlaceOf k i (map seen_pair ps));
        none : IfErr r (λ i. IsGapFor k i (map seen_pair ps));
      }
  searched ps (Ok i) rise within here = record { found = place_found ps i rise within here; none = tt }
  searched ps (Err i) rise within parted =
      let ways = parted (comparisons_rise ps rise) in
      record { found = tt; none = gap_found ps i within ways.0 ways.1 }

  -- at its place stands the value of k
  pub value_found : (ps : List Pair) (i : ℕ) (d : Pair) → IsPlaceOf k i (map seen_pair ps)
      → value_at k (map seen_pair ps) ≡ Some (seen (get_or ps i d).value)
  value_found [] i d at = absurd at
  value_found (p ∷ ps) zero d at = ap (λ o. cond (is_eq o) (Some (seen p.value)) (value_at k (map seen_pair ps))) at
  value_found (p ∷ ps) (suc i) d at =
      ap (λ o. cond (is_eq o) (Some (seen p.value)) (value_at k (map seen_pair ps))) at.0 ∙ value_found ps i d at.1

  -- what is less than all keys is none of them
  pub value_below : (ps : List (Datum × Datum)) → AllByRecursion (λ q. compare k q ≡ Less) (keys_of ps)
      → value_at k ps ≡ None
  value_below [] all = refl
  value_below (p ∷ ps) all = ap (λ o. cond (is_eq o) (Some p.1) (value_at k ps)) all.0 ∙ value_below ps all.1

  -- what is less than a key is less than all after it
  pub below_all : (d : Datum) (ds : List Datum) → compare k d ≡ Less → AllByRecursion (λ q. compare d q ≡ Less) ds
      → AllByRecursion (λ q. compare k q ≡ Less) ds
  below_all d [] less all = tt
  below_all d (e ∷ es) less all = (compare_total.trans k d e less all.0, below_all d es less all.1)

  -- a key that has a gap has no value
  pub value_missing : (ps : List (Datum × Datum)) (i : ℕ) → KeysRise ps → IsGapFor k i ps → value_at k ps ≡ None
  unfolding IsStrictlySortedBy
  value_missing [] i rise gap = refl
  value_missing (p ∷ ps) zero rise gap = value_below (p ∷ ps) (gap, below_all p.0 (keys_of ps) gap rise.0)
  value_missing (p ∷ ps) (suc i) rise gap = ap (λ o. cond (is_eq o) (Some p.1) (value_at k ps)) gap.0
      ∙ value_missing ps i rise.1 gap.1

module _ (k v : Datum) where
  -- the choice that the new list of pairs makes, by how the key compares with the first
  abbrev pub chosen : (Datum × Datum) → List (Datum × Datum) → Ordering → List (Datum × Datum)
  chosen p ps o = match_ordering o ((k, v) ∷ p ∷ ps) ((p.0, v) ∷ ps) (p ∷ with_pair k v ps)

  -- writing over the pair at the place of its key
  pub placed : (ps : List (Datum × Datum)) (i : ℕ) → IsPlaceOf k i ps → set ps i (k, v) ≡ with_pair k v ps
  placed [] i at = absurd at
  placed (p ∷ ps) zero at = (λ t. (compare_ties k p.0 at t, v) ∷ ps) ∙ sym (ap (chosen p ps) at)
  placed (p ∷ ps) (suc i) at = ap (λ qs. p ∷ qs) (placed ps i at.1) ∙ sym (ap (chosen p ps) at.0)

  -- putting a pair into the gap for its key
  pub gap_filled : (ps : List (Datum × Datum)) (i : ℕ) → IsGapFor k i ps → insert ps i (k, v) ≡ with_pair k v ps
  gap_filled [] zero gap = refl
  gap_filled [] (suc i) gap = absurd gap
  gap_filled (p ∷ ps) zero gap = sym (ap (chosen p ps) gap)
  gap_filled (p ∷ ps) (suc i) gap = ap (λ qs. p ∷ qs) (gap_filled ps i gap.1) ∙ sym (ap (chosen p ps) gap.0)

  -- what holds of each key and of k holds of each key of the new pairs
  all_chosen : (P : Datum → Type 0) (p : Datum × Datum) (ps : List (Datum × Datum)) (o : Ordering) → P k → P p.0
      → AllByRecursion P (keys_of ps)
      → AllByRecursion P (keys_of (with_pair k v ps)) → AllByRecursion P (keys_of (chosen p ps o))
  all_chosen P p ps Less one first all rest = (one, (first, all))
  all_chosen P p ps Equal one first all rest = (first, all)
  all_chosen P p ps Greater one first all rest = (first, rest)

  all_with : (P : Datum → Type 0) (ps : List (Datum × Datum)) → P k → AllByRecursion P (keys_of ps)
      → AllByRecursion P (keys_of (with_pair k v ps))
  all_with P [] one all = (one, tt)
  all_with P (p ∷ ps) one all = all_chosen P p ps (compare k p.0) one all.0 all.1 (all_with P ps one all.1)

  rise_chosen : (p : Datum × Datum) (ps : List (Datum × Datum)) (o : Ordering) → compare k p.0 ≡ o → KeysRise (p ∷ ps)
      → KeysRise (with_pair k v ps) → KeysRise (chosen p ps o)
  unfolding IsStrictlySortedBy
  rise_chosen p ps Less is rise rest = ((is, below_all k p.0 (keys_of ps) is rise.0), rise)
  rise_chosen p ps Equal is rise rest = rise
  rise_chosen p ps Greater is rise rest =
      (all_with (λ q. compare p.0 q ≡ Less) ps (turned k p.0 Greater is) rise.0, rest)

  -- the keys of the new pairs rise too
  pub keys_rise : (ps : List (Datum × Datum)) → KeysRise ps → KeysRise (with_pair k v ps)
  unfolding IsStrictlySortedBy
  keys_rise [] rise = (tt, tt)
  keys_rise (p ∷ ps) rise = rise_chosen p ps (compare k p.0) refl rise (keys_rise ps rise.1)

-- the list qs shows the pairs of ps with the pair p, and its keys rise
pub record Puts (ps qs : List Pair) (p : Pair) : Type 0 where
  pub pairs : map seen_pair qs ≡ with_pair (seen p.key) (seen p.value) (map seen_pair ps)
  pub rising : KeysRise (map seen_pair qs)

puts : (ps qs : List Pair) (p : Pair) → KeysRise (map seen_pair ps)
    → map seen_pair qs ≡ with_pair (seen p.key) (seen p.value) (map seen_pair ps) → Puts ps qs p
puts ps qs p rise shows = record {
  pairs = shows;
  rising = subst KeysRise (sym shows) (keys_rise (seen p.key) (seen p.value) (map seen_pair ps) rise);
}

-- writing the pair over the one at the place of its key
pub put_over : (ps : List Pair) (i : ℕ) (p : Pair) → KeysRise (map seen_pair ps)
    → IsPlaceOf (seen p.key) i (map seen_pair ps) → Puts ps (set ps i p) p
put_over ps i p rise at = puts ps (set ps i p) p rise
    (map-set seen_pair ps i p ∙ placed (seen p.key) (seen p.value) (map seen_pair ps) i at)

map-insert : {X Y : Type 0} (f : X → Y) (xs : List X) (i : ℕ) (x : X)
    → map f (insert xs i x) ≡ insert (map f xs) i (f x)
map-insert f xs zero x = refl
map-insert f [] (suc i) x = refl
map-insert f (y ∷ ys) (suc i) x = ap (λ zs. f y ∷ zs) (map-insert f ys i x)

-- putting the pair into the gap for its key
pub put_between : (ps : List Pair) (i : ℕ) (p : Pair) → KeysRise (map seen_pair ps)
    → IsGapFor (seen p.key) i (map seen_pair ps) → Puts ps (insert ps i p) p
put_between ps i p rise gap = puts ps (insert ps i p) p rise
    (map-insert seen_pair ps i p ∙ gap_filled (seen p.key) (seen p.value) (map seen_pair ps) i gap)

module _ (k v : Datum) where
  -- the first pair has the key, so the look-up ends there
  pub first_hit : (key w : Datum) (ps : List (Datum × Datum)) → compare k key ≡ Equal
      → value_at k ((key, w) ∷ ps) ≡ Some w
  first_hit key w ps hit = ap (λ o. cond (is_eq o) (Some w) (value_at k ps)) hit

  found_chosen : (p : Datum × Datum) (ps : List (Datum × Datum)) (o : Ordering) → compare k p.0 ≡ o
      → value_at k (with_pair k v ps) ≡ Some v → value_at k (chosen k v p ps o) ≡ Some v
  found_chosen p ps Less is rest = first_hit k v (p ∷ ps) (compare_itself k k refl)
  found_chosen p ps Equal is rest = first_hit p.0 v ps is
  found_chosen p ps Greater is rest = ap (λ o. cond (is_eq o) (Some p.1) (value_at k (with_pair k v ps))) is ∙ rest

  -- at its key the new pairs have the value
  pub value_put : (ps : List (Datum × Datum)) → value_at k (with_pair k v ps) ≡ Some v
  value_put [] = first_hit k v [] (compare_itself k k refl)
  value_put (p ∷ ps) = found_chosen p ps (compare k p.0) refl (value_put ps)

  module _ (w : Datum) where
    over_chosen : (p : Datum × Datum) (ps : List (Datum × Datum)) (o : Ordering) → compare k p.0 ≡ o
        → with_pair k w (with_pair k v ps) ≡ with_pair k w ps → with_pair k w (chosen k v p ps o) ≡ chosen k w p ps o
    over_chosen p ps Less is rest = ap (chosen k w (k, v) (p ∷ ps)) (compare_itself k k refl)
    over_chosen p ps Equal is rest = ap (chosen k w (p.0, v) ps) is
    over_chosen p ps Greater is rest = ap (chosen k w p (with_pair k v ps)) is ∙ ap (λ qs. p ∷ qs) rest

    -- of two values at one key the later stands
    pub later_stands : (ps : List (Datum × Datum)) → with_pair k w (with_pair k v ps) ≡ with_pair k w ps
    later_stands [] = ap (chosen k w (k, v) []) (compare_itself k k refl)
    later_stands (p ∷ ps) = over_chosen p ps (compare k p.0) refl (later_stands ps)

  module _ (j : Datum) where
    miss_by : (key w : Datum) (ps : List (Datum × Datum)) (o : Ordering) → compare j key ≡ o → j ≢ key
        → value_at j ((key, w) ∷ ps) ≡ value_at j ps
    miss_by key w ps Less is other = ap (λ o. cond (is_eq o) (Some w) (value_at j ps)) is
    miss_by key w ps Equal is other = absurd (other (compare_ties j key is))
    miss_by key w ps Greater is other = ap (λ o. cond (is_eq o) (Some w) (value_at j ps)) is

    -- the first pair has another key, so the look-up goes on
    pub first_miss : (key w : Datum) (ps : List (Datum × Datum)) → j ≢ key → value_at j ((key, w) ∷ ps) ≡ value_at j ps
    first_miss key w ps other = miss_by key w ps (compare j key) refl other

    kept_chosen : (p : Datum × Datum) (ps : List (Datum × Datum)) (o : Ordering) → compare k p.0 ≡ o → j ≢ k
        → value_at j (with_pair k v ps) ≡ value_at j ps → value_at j (chosen k v p ps o) ≡ value_at j (p ∷ ps)
    kept_chosen p ps Less is other rest = first_miss k v (p ∷ ps) other
    kept_chosen p ps Equal is other rest =
        let apart : j ≢ p.0 = λ same. other (same ∙ sym (compare_ties k p.0 is)) in
        first_miss p.0 v ps apart ∙ sym (first_miss p.0 p.1 ps apart)
    kept_chosen p ps Greater is other rest = ap (λ found. cond (is_eq (compare j p.0)) (Some p.1) found) rest

    -- at each other key they have what was there
    pub value_kept : (ps : List (Datum × Datum)) → j ≢ k → value_at j (with_pair k v ps) ≡ value_at j ps
    value_kept [] other = first_miss k v [] other
    value_kept (p ∷ ps) other = kept_chosen p ps (compare k p.0) refl other (value_kept ps other)

-- the key of the pair at the place is the key looked for
key_found : (ps : List Pair) (i : ℕ) (d : Pair) (k : Datum) → IsPlaceOf k i (map seen_pair ps)
    → seen (get_or ps i d).key ≡ k
key_found [] i d k at = absurd at
key_found (p ∷ ps) zero d k at = sym (compare_ties k (seen p.key) at)
key_found (p ∷ ps) (suc i) d k at = key_found ps i d k at.1

-- the list qs shows the pairs of ps with the value w at the key k, where the value old was, and its keys rise
pub record Replaces (ps qs : List Pair) (k : Datum) (old w : Value) : Type 0 where
  pub pairs : map seen_pair qs ≡ with_pair k (seen w) (map seen_pair ps)
  pub rising : KeysRise (map seen_pair qs)
  pub found : value_at k (map seen_pair ps) ≡ Some (seen old)

-- writing another value beside the key at its place
pub value_over : (ps : List Pair) (i : ℕ) (k : Datum) (p : Pair) (w : Value) → p ≡ get_or ps i p
    → KeysRise (map seen_pair ps) → IsPlaceOf k i (map seen_pair ps)
    → Replaces ps (set ps i (record { key = p.key; value = w })) k p.value w
value_over ps i k p w is rise at =
    let q : Pair = record { key = p.key; value = w } in
    let same : seen p.key ≡ k = ap (λ r. seen r.key) is ∙ key_found ps i p k at in
    let put = put_over ps i q rise (subst (λ x. IsPlaceOf x i (map seen_pair ps)) (sym same) at) in
    record {
      pairs = put.pairs ∙ ap (λ x. with_pair x (seen w) (map seen_pair ps)) same;
      rising = put.rising;
      found = value_found k ps i p at ∙ ap (λ r. Some (seen r.value)) (sym is);
    }
