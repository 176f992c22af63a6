-- Pairs of a map, sorted by their keys: what they weigh, and which of them are in it.
use Rattle.std.proofs.Common.{◌≡◌, ◌∙◌, ℕ, suc, ◌+◌, ◌-◌, ◌^◌, ◌<◌, ◌≤◌, nat_le, List, [], ◌∷◌, ◌++◌, length, take, drop, is_some, map, filter, get_or, cond, Bool, true, false, not, ◌&&◌, Some, None, refl, sym, ap, subst, arith}
use Rattle.std.proofs.lemmas.Bool.{le-leb, lt-leb}
use Rattle.std.proofs.lemmas.List.{take_more, drop_more, map-append, append_assoc}
use Rattle.std.specs.Option.{option_map}
use Rattle.std.proofs.lemmas.List.Elements.{filter_agree}
use Rattle.std.proofs.lemmas.List.MinMax.{ranks_by}
use Rattle.std.specs.List.{AllByRecursion, list_all}
use Rattle.std.specs.List.Sorted.{IsStableBy, IsSortedBy, IsStrictlySortedBy, ties}
use Rattle.std.specs.Cmp.{IsStrictWeakOrder}
use Rattle.std.specs.Map.{keys_of}
use Rattle.std.specs.Ordering.{is_eq, is_lt, ordering_reverse, match_ordering}
use Rattle.std.specs.declared.cmp.Ordering.{Ordering}
use Rattle.std.specs.declared.cmp.Ordering.TheVariants.{Less, Equal, Greater}
use Rattle.sz_value.specs.Data.{Datum, mapping, entries_of}
use Rattle.sz_value.specs.Order.{compare, KeysRise}
use Rattle.sz_value.specs.Total.{compare_total, compare_ties}
use Rattle.sz_value.specs.Seen.{seen, seen_pair}
use Rattle.sz_value.specs.Weight.{weight_of, entries_weight}
use Rattle.sz_value.specs.Maps.{with_pair, with_pairs}
use Rattle.sz_value.specs.declared.value.Value.{Value}
use Rattle.sz_value.specs.declared.value.Value.TheVariants as values
use Rattle.sz_value.specs.declared.value.Pair.{Pair}
use Rattle.sz_value.proofs.GatherLemmas as gather
use Rattle.sz_value.proofs.MapLemmas.{keys_rise}
use Rattle.sz_builtin.specs.Views.{seen_view}
use Rattle.sz_builtin.specs.declared.view.View.{View}
use Rattle.sz_builtin.specs.declared.view.View.TheVariants as views
use Rattle.sz_machine_cells.specs.PairViews.{seen_pair_view, seen_pair_views, pairs_weight, is_followed, last_ones, DontFall}
use Rattle.sz_machine_cells.specs.declared.maps.PairView.{PairView}
use Rattle.sz_machine_cells.specs.Results.{by_turns, defined_of}
use Rattle.sz_world_rules.specs.Slots.{Slot}
use Rattle.sz_world_rules.specs.Operations.{map_of}
use Rattle.sz_world_rules.specs.Operations as operations
use Rattle.sz_machine_cells.proofs.StoreLemmas.{last_stands}
use Rattle.sz_machine_cells.proofs.ListLemmas.{are_all, are_not_all}
use Rattle.sz_machine_cells.proofs.TurnLemmas.{put_by_turns}

-- a comparison turned round
pub turned : (d e : Datum) → compare d e ≡ ordering_reverse (compare e d)
turned d e = compare_total.antisymm d e

-- where the weights together are within bounds, none of them was cut
uncut : (ps : List (Datum × Datum)) → pairs_weight ps < 2 ^ 64 - 1 → entries_weight (entries_of ps) ≡ pairs_weight ps
uncut [] fits = refl
uncut (p ∷ ps) fits =
    let rest = uncut ps (omega (arith, fits)) in
    omega (arith, fits, rest)

cut : (ps : List (Datum × Datum)) → pairs_weight ps ≤ entries_weight (entries_of ps)
cut [] = omega arith
cut (p ∷ ps) = omega (arith, cut ps)

module _ (ps : List (Datum × Datum)) (most : ℕ) where
  -- a map weighs one more than its pairs
  pub pairs_fit : 1 + pairs_weight ps ≤ most → most < 2 ^ 64 → nat_le (weight_of (mapping (entries_of ps))) most ≡ true
  pairs_fit within fits =
      let same = uncut ps (omega (arith, within, fits)) in
      le-leb (weight_of (mapping (entries_of ps))) most (omega (arith, within, same))

  -- where its pairs and one weigh more than this, it does
  pub pairs_pass : most < 1 + pairs_weight ps → most < 2 ^ 64 - 1
      → nat_le (weight_of (mapping (entries_of ps))) most ≡ false
  pairs_pass more fits =
      let least = cut ps in
      lt-leb (weight_of (mapping (entries_of ps))) most (omega (arith, more, fits, least))

  -- a weight stays at the greatest number
  pub all_fit : most ≡ 2 ^ 64 - 1 → nat_le (weight_of (mapping (entries_of ps))) most ≡ true
  all_fit is = le-leb (weight_of (mapping (entries_of ps))) most (omega (arith, is))

-- a pair whose key is less than all others stays in front of them
under_one : (p q : Datum × Datum) (qs : List (Datum × Datum)) → compare p.0 q.0 ≡ Less
    → with_pair q.0 q.1 (p ∷ qs) ≡ p ∷ with_pair q.0 q.1 qs
under_one p q qs less =
    ap (λ o. match_ordering o ((q.0, q.1) ∷ p ∷ qs) ((p.0, q.1) ∷ qs) (p ∷ with_pair q.0 q.1 qs))
    (turned q.0 p.0 ∙ ap ordering_reverse less)

under : (p : Datum × Datum) (ps qs : List (Datum × Datum)) → AllByRecursion (λ k. compare p.0 k ≡ Less) (keys_of ps)
    → with_pairs (p ∷ qs) ps ≡ p ∷ with_pairs qs ps
under p [] qs all = refl
under p (q ∷ ps) qs all = ap (λ l. with_pairs l ps) (under_one p q qs all.0) ∙ under p ps (with_pair q.0 q.1 qs) all.1

-- what isn't less is equal or greater
less_on : (d e f : Datum) → compare d e ≡ Less → is_lt (compare f e) ≡ false → compare d f ≡ Less
less_on d e f less not_less = by (compare e f) refl
  where
    by : (o : Ordering) → compare e f ≡ o → compare d f ≡ Less
    by Less is = compare_total.trans d e f less is
    by Equal is = subst (λ x. compare d x ≡ Less) (compare_ties e f is) less
    by Greater is = let e = sym (ap is_lt (turned f e ∙ ap ordering_reverse is)) ∙ not_less in cc

-- what is less than the first of keys that don't fall is less than all of them
less_than_all : (d : Datum) (q : Datum × Datum) (ps : List (Datum × Datum)) → compare d q.0 ≡ Less → DontFall (q ∷ ps)
    → AllByRecursion (λ k. compare d k ≡ Less) (keys_of (q ∷ ps))
less_than_all d q [] less order = (less, tt)
less_than_all d q (r ∷ ps) less order = (less, less_than_all d r ps (less_on d q.0 r.0 less order.0) order.1)

-- of keys that don't fall the last ones with their values are the map
pub last_ones_are : (ps : List (Datum × Datum)) → DontFall ps → last_ones ps ≡ with_pairs [] ps
last_ones_are [] order = refl
last_ones_are (p ∷ []) order = refl
last_ones_are (p ∷ q ∷ ps) order = by (last_ones_are (q ∷ ps) order.1) (compare p.0 q.0) refl
  where
    by : last_ones (q ∷ ps) ≡ with_pairs [] (q ∷ ps)
        → (o : Ordering) → compare p.0 q.0 ≡ o
        → cond (is_eq o) (last_ones (q ∷ ps)) (p ∷ last_ones (q ∷ ps)) ≡ with_pairs [] (p ∷ q ∷ ps)
    by rest Less is = ap (λ l. p ∷ l) rest ∙ sym (under p (q ∷ ps) [] (less_than_all p.0 q ps is order.1))
    by rest Equal is =
        let same : p.0 ≡ q.0 = compare_ties p.0 q.0 is in
        rest ∙ sym (ap (λ l. with_pairs l ps)
        (ap (λ k. with_pair q.0 q.1 (with_pair k p.1 [])) same ∙ last_stands q.0 p.1 q.1 []))
    by rest Greater is = let e = sym (ap is_lt (turned q.0 p.0 ∙ ap ordering_reverse is)) ∙ order.0 in cc

-- the keys of a map rise
rise_all : (qs ps : List (Datum × Datum)) → KeysRise qs → KeysRise (with_pairs qs ps)
rise_all qs [] rise = rise
rise_all qs (p ∷ ps) rise = rise_all (with_pair p.0 p.1 qs) ps (keys_rise p.0 p.1 qs rise)

-- those of the last ones do
pub last_rise : (ps : List (Datum × Datum)) → DontFall ps → KeysRise (last_ones ps)
unfolding IsStrictlySortedBy
last_rise ps order = subst KeysRise (sym (last_ones_are ps order)) (rise_all [] ps tt)

-- the value that is looked at
abbrev as_value : View → Value
as_value (views.Bool b) = values.Bool b
as_value (views.Int n) = values.Int n
as_value (views.Time n) = values.Time n
as_value (views.Ascii text) = values.Str text.octets.now
as_value (views.Bytes octets) = values.Bytes octets.now
as_value (views.Whole value) = value.now

abbrev as_pair : PairView → Pair
as_pair pair = record { key = as_value pair.key; value = as_value pair.value }

value_seen : (v : View) → seen (as_value v) ≡ seen_view v
value_seen (views.Bool b) = refl
value_seen (views.Int n) = refl
value_seen (views.Time n) = refl
value_seen (views.Ascii text) = refl
value_seen (views.Bytes octets) = refl
value_seen (views.Whole value) = refl

pairs_seen : (ps : List PairView) → map seen_pair (map as_pair ps) ≡ seen_pair_views ps
pairs_seen [] = refl
pairs_seen (p ∷ ps) = λ i. (value_seen p.key i, value_seen p.value i) ∷ pairs_seen ps i

-- the key of the one pair is less than that of the other
abbrev pub key_less : PairView → PairView → Bool
key_less one two = is_lt (compare (seen_view one.key) (seen_view two.key))

pub keys_ordered : IsStrictWeakOrder key_less
keys_ordered = ranks_by compare_total (λ (p : PairView). seen_view p.key)

-- the pairs that a test of their values picks
picked : (test : Pair → Bool) (xs : List PairView)
    → filter test (map as_pair xs) ≡ map as_pair (filter (λ x. test (as_pair x)) xs)
picked test [] = refl
picked test (x ∷ xs) = by (test (as_pair x)) (picked test xs)
  where
    by : (b : Bool) → filter test (map as_pair xs) ≡ map as_pair (filter (λ x. test (as_pair x)) xs)
        → cond b (as_pair x ∷ filter test (map as_pair xs)) (filter test (map as_pair xs))
        ≡ map as_pair (cond b (x ∷ filter (λ x. test (as_pair x)) xs) (filter (λ x. test (as_pair x)) xs))
    by true e = ap (λ l. as_pair x ∷ l) e
    by false e = e

-- a view of a value that stands somewhere
abbrev view_of : Pair → PairView
view_of v = record {
  key = views.Whole (record { ref_ptr = (0, 0); now = v.key });
  value = views.Whole (record { ref_ptr = (0, 0); now = v.value });
}

module _ (xs ys : List PairView) where
  stable_values : IsStableBy key_less xs ys → IsStableBy gather.key_less (map as_pair xs) (map as_pair ys)
  stable_values stable v =
      picked (ties gather.key_less v) ys
      ∙ ap (map as_pair) (filter_agree _ (ties key_less (view_of v)) same ys ∙ stable (view_of v)
      ∙ sym (filter_agree _ (ties key_less (view_of v)) same xs)) ∙ sym (picked (ties gather.key_less v) xs)
    where
      same : (x : PairView) → ties gather.key_less v (as_pair x) ≡ ties key_less (view_of v) x
      same x = ap (λ k. not (is_lt (compare (seen v.key) k)) && not (is_lt (compare k (seen v.key)))) (value_seen x.key)

  -- a stable sort by the keys changes nothing of the map
  pub sorted_alike : IsStableBy key_less xs ys → with_pairs [] (seen_pair_views ys) ≡ with_pairs [] (seen_pair_views xs)
  sorted_alike stable =
      ap (with_pairs []) (sym (pairs_seen ys))
      ∙ gather.sorted_alike (map as_pair xs) (map as_pair ys) (stable_values stable)
      ∙ ap (with_pairs []) (pairs_seen xs)

-- after a sort by the keys they don't fall
pub dont_fall : (ps : List PairView) → IsSortedBy key_less ps → DontFall (seen_pair_views ps)
dont_fall [] order = tt
dont_fall (p ∷ []) order = tt
dont_fall (p ∷ q ∷ ps) order = (
  order 0 p (omega arith) (omega arith),
  dont_fall (q ∷ ps) (λ k d low high. next k d (order (suc k) d (omega arith) (omega (arith, high)))),
)
  where
    next : (k : ℕ) (d : PairView) → key_less (get_or (p ∷ q ∷ ps) (suc k + 1) d) (get_or (q ∷ ps) k d) ≡ false
        → key_less (get_or (q ∷ ps) (k + 1) d) (get_or (q ∷ ps) k d) ≡ false
    next k d is =
        let later : suc k + 1 ≡ suc (k + 1) = omega arith in
        subst (λ m. key_less (get_or (p ∷ q ∷ ps) m d) (get_or (q ∷ ps) k d) ≡ false) later is

-- one pair more is copied
pub one_copied : (ps : List PairView) (i : ℕ) (p : PairView) (made more : List Pair) (copy : Pair) → i < length ps
    → p ≡ get_or ps i p → seen_pair copy ≡ seen_pair_view p → more ≡ made ++ copy ∷ []
    → map seen_pair made ≡ seen_pair_views (take i ps) → map seen_pair more ≡ seen_pair_views (take (i + 1) ps)
one_copied ps i p made more copy inside here same is so_far =
    ap (map seen_pair) is
    ∙ map-append seen_pair made (copy ∷ [])
    ∙ (λ t. so_far t ++ same t ∷ [])
    ∙ ap (λ q. seen_pair_views (take i ps) ++ seen_pair_view q ∷ []) here
    ∙ sym (map-append seen_pair_view (take i ps) (get_or ps i p ∷ []))
    ∙ sym (ap seen_pair_views (take_more ps i p inside))

module _ (ps : List PairView) (i : ℕ) (d : PairView) (inside : i < length ps) where
  ahead : (b : Bool) → is_followed (seen_pair_views (drop i ps)) ≡ b
      → last_ones (seen_pair_views (drop i ps)) ≡ cond b (last_ones (seen_pair_views (drop (i + 1) ps)))
      (seen_pair_view (get_or ps i d) ∷ last_ones (seen_pair_views (drop (i + 1) ps)))
  ahead b is =
      let one = drop_more ps i d inside in
      let rest = last_ones (seen_pair_views (drop (i + 1) ps)) in
      ap (λ l. last_ones (seen_pair_views l)) one
      ∙ ap (λ t. cond t rest (seen_pair_view (get_or ps i d) ∷ rest))
      (sym (ap (λ l. is_followed (seen_pair_views l)) one) ∙ is)

module _ (ps : List PairView) (i : ℕ) (kept : List PairView) (all : List (Datum × Datum)) (inside : i < length ps)
    (so_far : seen_pair_views kept ++ last_ones (seen_pair_views (drop i ps)) ≡ all) where
  -- a pair whose key stands once more isn't kept
  pub goes_ahead : is_followed (seen_pair_views (drop i ps)) ≡ true
      → seen_pair_views kept ++ last_ones (seen_pair_views (drop (i + 1) ps)) ≡ all
  goes_ahead is =
      let p : PairView = record { key = views.Bool true; value = views.Bool true } in
      ap (λ l. seen_pair_views kept ++ l) (sym (ahead ps i p inside true is)) ∙ so_far

  -- another one is
  pub keeps_one : (p : PairView) → p ≡ get_or ps i p → is_followed (seen_pair_views (drop i ps)) ≡ false
      → seen_pair_views (kept ++ p ∷ []) ++ last_ones (seen_pair_views (drop (i + 1) ps)) ≡ all
  keeps_one p here is =
      let rest = last_ones (seen_pair_views (drop (i + 1) ps)) in
      ap (λ l. l ++ rest) (map-append seen_pair_view kept (p ∷ []))
      ∙ append_assoc (seen_pair_views kept) (seen_pair_view p ∷ []) rest
      ∙ ap (λ q. seen_pair_views kept ++ seen_pair_view q ∷ rest) here
      ∙ ap (λ l. seen_pair_views kept ++ l) (sym (ahead ps i p inside false is)) ∙ so_far

-- where an operand is undefined, so is the map
pub no_map : (xs : List Slot) → list_all is_some xs ≡ false → map_of xs ≡ None
no_map xs none = ap (option_map (λ ds. mapping (entries_of (operations.with_pairs [] ds)))) (are_not_all xs none)

module _ (xs : List Slot) (ps : List (Datum × Datum)) (order : DontFall ps) where
  -- else it has the last ones of the pairs, sorted by their keys
  pub map_is : list_all is_some xs ≡ true → with_pairs [] ps ≡ with_pairs [] (by_turns (defined_of xs))
      → Some (mapping (entries_of (last_ones ps))) ≡ map_of xs
  map_is all alike =
      ap (λ l. Some (mapping (entries_of l))) (last_ones_are ps order ∙ alike ∙ sym (put_by_turns [] (defined_of xs)))
      ∙ sym (ap (option_map (λ ds. mapping (entries_of (operations.with_pairs [] ds)))) (are_all xs all))
