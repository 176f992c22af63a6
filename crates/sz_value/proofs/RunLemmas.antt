-- Runs of pairs, one after the other: to which one a key belongs, and that what is done in it is done to all pairs.
use Rattle.std.proofs.Common.{◌≡◌, ℕ, zero, suc, ◌+◌, ◌-◌, ◌<◌, ◌≤◌, List, [], ◌∷◌, ◌++◌, length, set, map, take, get_or, Some, Result, Ok, Err, IfOk, IfErr, OnOk, OnErr, cond, refl, sym, ap, ◌∙◌, subst, arith}
use Rattle.std.specs.List.{AllByRecursion}
use Rattle.std.specs.List.Sorted.{IsStrictlySortedBy, IsNonDecreasingBy, IsSearchInRange, IsBinarySearchResult}
use Rattle.std.specs.Ordering.{ordering_index, is_eq}
use Rattle.std.specs.declared.cmp.Ordering.{Ordering}
use Rattle.std.specs.declared.cmp.Ordering.TheVariants.{Less, Equal, Greater}
use Rattle.std.specs.Map.{keys_of}
use Rattle.std.proofs.lemmas.List.{length-append, length-map}
use Rattle.sz_value.specs.Data.{Datum}
use Rattle.sz_value.specs.Order.{compare, KeysRise}
use Rattle.sz_value.specs.Total.{compare_total, compare_ties}
use Rattle.sz_value.specs.Maps.{value_at, with_pair}
use Rattle.sz_value.specs.Places.{IsPlaceOf}
use Rattle.sz_value.specs.Runs.{AreFilled, AreRuns, IsRunFor, head_order}
use Rattle.sz_value.specs.Seen.{seen, seen_pair, seen_pairs, seen_runs}
use Rattle.sz_value.specs.declared.value.Pair.{Pair}
use Rattle.sz_value.specs.declared.value.Run.{Run}
use Rattle.sz_value.proofs.MapLemmas.{turned, index_rises, value_below, below_all, chosen, keys_rise}

module _ (P : Datum → Type 0) where
  all_front : (ps qs : List (Datum × Datum)) → AllByRecursion P (keys_of (ps ++ qs)) → AllByRecursion P (keys_of ps)
  all_front [] qs all = tt
  all_front (p ∷ ps) qs all = (all.0, all_front ps qs all.1)

  all_back : (ps qs : List (Datum × Datum)) → AllByRecursion P (keys_of (ps ++ qs)) → AllByRecursion P (keys_of qs)
  all_back [] qs all = all
  all_back (p ∷ ps) qs all = all_back ps qs all.1

rise_front : (ps qs : List (Datum × Datum)) → KeysRise (ps ++ qs) → KeysRise ps
unfolding IsStrictlySortedBy
rise_front [] qs rise = tt
rise_front (p ∷ ps) qs rise = (all_front (λ k. compare p.0 k ≡ Less) ps qs rise.0, rise_front ps qs rise.1)

rise_back : (ps qs : List (Datum × Datum)) → KeysRise (ps ++ qs) → KeysRise qs
unfolding IsStrictlySortedBy
rise_back [] qs rise = rise
rise_back (p ∷ ps) qs rise = rise_back ps qs rise.1

-- the keys of each run rise
pub rise_run : (rs : List Run) (i : ℕ) (d : Run) → KeysRise (seen_runs rs) → i < length rs → KeysRise (seen_pairs (get_or rs i d).pairs.items)
rise_run [] i d rise within = absurd (omega arith)
rise_run (r ∷ rs) zero d rise within = rise_front (seen_pairs r.pairs.items) (seen_runs rs) rise
rise_run (r ∷ rs) (suc i) d rise within = rise_run rs i d (rise_back (seen_pairs r.pairs.items) (seen_runs rs) rise) (omega arith)

-- runs with another one that is filled
filled_with : (rs : List Run) (i : ℕ) (r : Run) → AreFilled rs → 0 < length r.pairs.items → AreFilled (set rs i r)
filled_with [] i r filled some = tt
filled_with (s ∷ rs) zero r filled some = (some, filled.1)
filled_with (s ∷ rs) (suc i) r filled some = (filled.0, filled_with rs i r filled.1 some)

module _ (k : Datum) where
  -- what is less than one that is not greater than k is less than k
  less_too : (q h : Datum) (found : Ordering) → compare h k ≡ found → ordering_index found ≤ 1 → compare q h ≡ Less → compare k q ≡ Greater
  less_too q h Less is low less = turned q k Less (compare_total.trans q h k less is)
  less_too q h Equal is low less = turned q k Less (subst (λ x. compare q x ≡ Less) (compare_ties h k is) less)
  less_too q h Greater is low less = absurd (omega arith)

  less_head : (ps : List Pair) → 0 < length ps → (q : Datum) (found : Ordering) → head_order k ps ≡ found → ordering_index found ≤ 1
      → AllByRecursion (λ x. compare q x ≡ Less) (keys_of (map seen_pair ps)) → compare k q ≡ Greater
  less_head [] filled q found is low all = absurd (omega arith)
  less_head (p ∷ ps) filled q found is low all = less_too q (seen p.key) found is low all.0

  less_run : (rs : List Run) (i : ℕ) (d : Run) → AreFilled rs → i < length rs → (q : Datum) (found : Ordering)
      → head_order k (get_or rs i d).pairs.items ≡ found
      → ordering_index found ≤ 1 → AllByRecursion (λ x. compare q x ≡ Less) (keys_of (seen_runs rs)) → compare k q ≡ Greater
  less_run [] i d filled within q found is low all = absurd (omega arith)
  less_run (r ∷ rs) zero d filled within q found is low all =
      less_head r.pairs.items filled.0 q found is low (all_front (λ x. compare q x ≡ Less) (seen_pairs r.pairs.items) (seen_runs rs) all)
  less_run (r ∷ rs) (suc i) d filled within q found is low all =
      less_run rs i d filled.1 (omega arith) q found is low (all_back (λ x. compare q x ≡ Less) (seen_pairs r.pairs.items) (seen_runs rs) all)

  -- all pairs before a run whose first key isn't greater than k are less
  all_less : (ps : List (Datum × Datum)) (rs : List Run) (i : ℕ) (d : Run) → AreFilled rs → i < length rs → (found : Ordering)
      → head_order k (get_or rs i d).pairs.items ≡ found → ordering_index found ≤ 1 → KeysRise (ps ++ seen_runs rs)
      → AllByRecursion (λ q. compare k q ≡ Greater) (keys_of ps)
  unfolding IsStrictlySortedBy
  all_less [] rs i d filled within found is low rise = tt
  all_less (p ∷ ps) rs i d filled within found is low rise = (
    less_run rs i d filled within p.0 found is low (all_back (λ x. compare p.0 x ≡ Less) ps (seen_runs rs) rise.0),
    all_less ps rs i d filled within found is low rise.1,
  )

  from_head : (ps : List Pair) (qs : List (Datum × Datum)) → 0 < length ps → KeysRise (map seen_pair ps ++ qs) → head_order k ps ≡ Greater
      → AllByRecursion (λ x. compare k x ≡ Less) (keys_of (map seen_pair ps ++ qs))
  unfolding IsStrictlySortedBy
  from_head [] qs filled rise is = absurd (omega arith)
  from_head (p ∷ ps) qs filled rise is =
      let less = turned (seen p.key) k Greater is in
      (less, below_all k (seen p.key) (keys_of (map seen_pair ps ++ qs)) less rise.0)

  -- where the first key is greater than k, all are
  all_greater : (rs : List Run) → AreFilled rs → KeysRise (seen_runs rs)
      → (0 < length rs → (d : Run) → head_order k (get_or rs 0 d).pairs.items ≡ Greater)
      → AllByRecursion (λ x. compare k x ≡ Less) (keys_of (seen_runs rs))
  all_greater [] filled rise head = tt
  all_greater (r ∷ rs) filled rise head = from_head r.pairs.items (seen_runs rs) filled.0 rise (head (omega arith) r)

  after_head : (ps : List Pair) (qs : List (Datum × Datum)) → 0 < length ps → KeysRise (map seen_pair ps ++ qs) → head_order k ps ≡ Equal
      → AllByRecursion (λ x. compare k x ≡ Less) (keys_of qs)
  unfolding IsStrictlySortedBy
  after_head [] qs filled rise is = absurd (omega arith)
  after_head (p ∷ ps) qs filled rise is =
      subst (λ x. AllByRecursion (λ y. compare x y ≡ Less) (keys_of qs)) (compare_ties (seen p.key) k is)
      (all_back (λ y. compare (seen p.key) y ≡ Less) (map seen_pair ps) qs rise.0)

  run_found : (rs : List Run) (i : ℕ) → AreFilled rs → KeysRise (seen_runs rs) → i < length rs
      → ((d : Run) → head_order k (get_or rs i d).pairs.items ≡ Equal)
      → IsRunFor k i rs
  run_found [] i filled rise within here = absurd (omega arith)
  run_found (r ∷ rs) zero filled rise within here = after_head r.pairs.items (seen_runs rs) filled.0 rise (here r)
  run_found (r ∷ rs) (suc i) filled rise within here = (
    all_less (seen_pairs r.pairs.items) rs i r filled.1 (omega arith) Equal (here r) (omega arith) rise,
    run_found rs i filled.1 (rise_back (seen_pairs r.pairs.items) (seen_runs rs) rise) (omega arith) here,
  )

  run_before : (rs : List Run) (i : ℕ) → AreFilled rs → KeysRise (seen_runs rs) → i < length rs
      → ((j : ℕ) (d : Run) → j < i + 1 → head_order k (get_or rs j d).pairs.items ≡ Less)
      → ((j : ℕ) (d : Run) → i + 1 ≤ j → j < length rs → head_order k (get_or rs j d).pairs.items ≡ Greater)
      → IsRunFor k i rs
  run_before [] i filled rise within before after = absurd (omega arith)
  run_before (r ∷ rs) zero filled rise within before after =
      all_greater rs filled.1 (rise_back (seen_pairs r.pairs.items) (seen_runs rs) rise) (λ some d. after 1 d (omega arith) (omega arith))
  run_before (r ∷ rs) (suc i) filled rise within before after = (
    all_less (seen_pairs r.pairs.items) rs i r filled.1 (omega arith) Less (before (suc i) r (omega arith)) (omega arith) rise,
    run_before rs i filled.1 (rise_back (seen_pairs r.pairs.items) (seen_runs rs) rise) (omega arith) (λ j d low. before (suc j) d (omega arith))
        (λ j d low high. after (suc j) d (omega arith) (omega arith)),
  )

  first_run : (rs : List Run) → AreFilled rs → KeysRise (seen_runs rs) → (0 < length rs → (d : Run) → head_order k (get_or rs 0 d).pairs.items ≡ Greater)
      → IsRunFor k 0 rs
  first_run [] filled rise head = tt
  first_run (r ∷ rs) filled rise head = all_back (λ x. compare k x ≡ Less) (seen_pairs r.pairs.items) (seen_runs rs) (all_greater (r ∷ rs) filled rise head)

  under_head : (ps : List Pair) → 0 < length ps → (a : Datum) → AllByRecursion (λ x. compare a x ≡ Less) (keys_of (map seen_pair ps))
      → ordering_index (compare a k) ≤ ordering_index (head_order k ps)
  under_head [] filled a all = absurd (omega arith)
  under_head (p ∷ ps) filled a all = index_rises a (seen p.key) k all.0 (compare (seen p.key) k) refl

  under_run : (rs : List Run) (j : ℕ) (d : Run) → AreFilled rs → j < length rs → (a : Datum)
      → AllByRecursion (λ x. compare a x ≡ Less) (keys_of (seen_runs rs))
      → ordering_index (compare a k) ≤ ordering_index (head_order k (get_or rs j d).pairs.items)
  under_run [] j d filled within a all = absurd (omega arith)
  under_run (r ∷ rs) zero d filled within a all =
      under_head r.pairs.items filled.0 a (all_front (λ x. compare a x ≡ Less) (seen_pairs r.pairs.items) (seen_runs rs) all)
  under_run (r ∷ rs) (suc j) d filled within a all =
      under_run rs j d filled.1 (omega arith) a (all_back (λ x. compare a x ≡ Less) (seen_pairs r.pairs.items) (seen_runs rs) all)

  head_under : (ps : List Pair) (rs : List Run) (j : ℕ) (d : Run) → 0 < length ps → AreFilled rs → j < length rs
      → KeysRise (map seen_pair ps ++ seen_runs rs)
      → ordering_index (head_order k ps) ≤ ordering_index (head_order k (get_or rs j d).pairs.items)
  unfolding IsStrictlySortedBy
  head_under [] rs j d some filled within rise = absurd (omega arith)
  head_under (p ∷ ps) rs j d some filled within rise =
      under_run rs j d filled within (seen p.key) (all_back (λ x. compare (seen p.key) x ≡ Less) (map seen_pair ps) (seen_runs rs) rise.0)

  -- the comparisons of the first keys with k rise along the runs
  heads_rise : (rs : List Run) → AreFilled rs → KeysRise (seen_runs rs) → IsNonDecreasingBy (λ run. ordering_index (head_order k run.pairs.items)) rs
  heads_rise [] filled rise i j d order within = absurd (omega arith)
  heads_rise (r ∷ rs) filled rise zero zero d order within = omega arith
  heads_rise (r ∷ rs) filled rise zero (suc j) d order within = head_under r.pairs.items rs j d filled.0 filled.1 (omega arith) rise
  heads_rise (r ∷ rs) filled rise (suc i) zero d order within = absurd (omega arith)
  heads_rise (r ∷ rs) filled rise (suc i) (suc j) d order within =
      heads_rise rs filled.1 (rise_back (seen_pairs r.pairs.items) (seen_runs rs) rise) i j d (omega arith) (omega arith)

  run_missed : (rs : List Run) (i : ℕ) → AreRuns rs → i ≤ length rs
      → ((j : ℕ) (d : Run) → 0 ≤ j → j < i → head_order k (get_or rs j d).pairs.items ≡ Less)
      → ((j : ℕ) (d : Run) → i ≤ j → j < length rs → head_order k (get_or rs j d).pairs.items ≡ Greater)
      → IsRunFor k (i - 1) rs
  run_missed rs zero are within before after = first_run rs are.0 are.1 (λ some d. after 0 d (omega arith) (omega arith))
  run_missed rs (suc i) are within before after =
      let same : i ≡ suc i - 1 = omega arith in
      subst (λ n. IsRunFor k n rs) same
      (run_before rs i are.0 are.1 (omega arith) (λ j d low. before j d (omega arith) (omega arith)) (λ j d low high. after j d (omega arith) high))

  -- a search by halving among the first keys ends at the run of k, or behind it
  pub run_searched : (rs : List Run) (r : Result ℕ ℕ) → AreRuns rs → IsSearchInRange r (length rs)
      → IsBinarySearchResult (λ run. head_order k run.pairs.items) rs r
      → record { found : IfOk r (λ i. IsRunFor k i rs); none : IfErr r (λ i. IsRunFor k (i - 1) rs) }
  run_searched rs (Ok i) are within here = record { found = run_found rs i are.0 are.1 within here; none = tt }
  run_searched rs (Err i) are within parted =
      let ways = parted (heads_rise rs are.0 are.1) in
      record { found = tt; none = run_missed rs i are within ways.0 ways.1 }

  value_here : (ps qs : List (Datum × Datum)) → AllByRecursion (λ x. compare k x ≡ Less) (keys_of qs) → value_at k (ps ++ qs) ≡ value_at k ps
  value_here [] qs all = value_below k qs all
  value_here (p ∷ ps) qs all = ap (λ v. cond (is_eq (compare k p.0)) (Some p.1) v) (value_here ps qs all)

  value_past : (ps qs : List (Datum × Datum)) → AllByRecursion (λ x. compare k x ≡ Greater) (keys_of ps) → value_at k (ps ++ qs) ≡ value_at k qs
  value_past [] qs all = refl
  value_past (p ∷ ps) qs all = ap (λ o. cond (is_eq o) (Some p.1) (value_at k (ps ++ qs))) all.0 ∙ value_past ps qs all.1

  -- a look-up goes by the run of its key
  pub value_of_run : (rs : List Run) (i : ℕ) (d : Run) → IsRunFor k i rs → i < length rs
      → value_at k (seen_runs rs) ≡ value_at k (seen_pairs (get_or rs i d).pairs.items)
  value_of_run [] i d own within = absurd (omega arith)
  value_of_run (r ∷ rs) zero d own within = value_here (seen_pairs r.pairs.items) (seen_runs rs) own
  value_of_run (r ∷ rs) (suc i) d own within = value_past (seen_pairs r.pairs.items) (seen_runs rs) own.0 ∙ value_of_run rs i d own.1 (omega arith)

  place_here : (ps qs : List (Datum × Datum)) (n : ℕ) → IsPlaceOf k n ps → IsPlaceOf k n (ps ++ qs)
  place_here [] qs n at = absurd at
  place_here (p ∷ ps) qs zero at = at
  place_here (p ∷ ps) qs (suc n) at = (at.0, place_here ps qs n at.1)

  place_past : (ps qs : List (Datum × Datum)) (n : ℕ) → AllByRecursion (λ x. compare k x ≡ Greater) (keys_of ps) → IsPlaceOf k n qs
      → IsPlaceOf k (length ps + n) (ps ++ qs)
  place_past [] qs n all at =
      let same : n ≡ 0 + n = omega arith in
      subst (λ m. IsPlaceOf k m qs) same at
  place_past (p ∷ ps) qs n all at =
      let further : IsPlaceOf k (suc (length ps + n)) (p ∷ (ps ++ qs)) = (all.0, place_past ps qs n all.1 at) in
      let same : suc (length ps + n) ≡ length (p ∷ ps) + n = omega arith in
      subst (λ m. IsPlaceOf k m (p ∷ (ps ++ qs))) same further

  -- the place of the key among all pairs
  pub place_of_run : (rs : List Run) (i : ℕ) (d : Run) (n : ℕ) → IsRunFor k i rs → i < length rs → IsPlaceOf k n (seen_pairs (get_or rs i d).pairs.items)
      → IsPlaceOf k (length (seen_runs (take i rs)) + n) (seen_runs rs)
  place_of_run [] i d n own within at = absurd (omega arith)
  place_of_run (r ∷ rs) zero d n own within at =
      let same : n ≡ 0 + n = omega arith in
      subst (λ m. IsPlaceOf k m (seen_runs (r ∷ rs))) same (place_here (seen_pairs r.pairs.items) (seen_runs rs) n at)
  place_of_run (r ∷ rs) (suc i) d n own within at =
      let same : length (seen_pairs r.pairs.items) + (length (seen_runs (take i rs)) + n) ≡ length (seen_runs (take (suc i) (r ∷ rs))) + n
      = omega (arith, length-append (seen_pairs r.pairs.items) (seen_runs (take i rs))) in
      subst (λ m. IsPlaceOf k m (seen_runs (r ∷ rs))) same
      (place_past (seen_pairs r.pairs.items) (seen_runs rs) (length (seen_runs (take i rs)) + n) own.0 (place_of_run rs i d n own.1 (omega arith) at))

  module _ (v : Datum) where
    here_chosen : (p : Datum × Datum) (ps qs : List (Datum × Datum)) (o : Ordering) → with_pair k v (ps ++ qs) ≡ with_pair k v ps ++ qs
        → chosen k v p (ps ++ qs) o ≡ chosen k v p ps o ++ qs
    here_chosen p ps qs Less rest = refl
    here_chosen p ps qs Equal rest = refl
    here_chosen p ps qs Greater rest = ap (λ t. p ∷ t) rest

    with_here : (ps qs : List (Datum × Datum)) → AllByRecursion (λ x. compare k x ≡ Less) (keys_of qs) → with_pair k v (ps ++ qs) ≡ with_pair k v ps ++ qs
    with_here [] [] all = refl
    with_here [] (q ∷ qs) all = ap (chosen k v q qs) all.0
    with_here (p ∷ ps) qs all = here_chosen p ps qs (compare k p.0) (with_here ps qs all)

    with_past : (ps qs : List (Datum × Datum)) → AllByRecursion (λ x. compare k x ≡ Greater) (keys_of ps) → with_pair k v (ps ++ qs) ≡ ps ++ with_pair k v qs
    with_past [] qs all = refl
    with_past (p ∷ ps) qs all = ap (chosen k v p (ps ++ qs)) all.0 ∙ ap (λ t. p ∷ t) (with_past ps qs all.1)

    with_run : (rs : List Run) (i : ℕ) (d r : Run) → IsRunFor k i rs → i < length rs
        → seen_pairs r.pairs.items ≡ with_pair k v (seen_pairs (get_or rs i d).pairs.items)
        → seen_runs (set rs i r) ≡ with_pair k v (seen_runs rs)
    with_run [] i d r own within shows = absurd (omega arith)
    with_run (s ∷ rs) zero d r own within shows = ap (λ t. t ++ seen_runs rs) shows ∙ sym (with_here (seen_pairs s.pairs.items) (seen_runs rs) own)
    with_run (s ∷ rs) (suc i) d r own within shows =
        ap (λ t. seen_pairs s.pairs.items ++ t) (with_run rs i d r own.1 (omega arith) shows) ∙ sym (with_past (seen_pairs s.pairs.items) (seen_runs rs) own.0)

    some_chosen : (p : Datum × Datum) (ps : List (Datum × Datum)) (o : Ordering) → 0 < length (chosen k v p ps o)
    some_chosen p ps Less = omega arith
    some_chosen p ps Equal = omega arith
    some_chosen p ps Greater = omega arith

    with_some : (ps : List (Datum × Datum)) → 0 < length (with_pair k v ps)
    with_some [] = omega arith
    with_some (p ∷ ps) = some_chosen p ps (compare k p.0)

    -- a pair that is put into the run of its key is put among all pairs
    pub put_in_run : (rs : List Run) (i : ℕ) (d r : Run) → AreRuns rs → IsRunFor k i rs → i < length rs
        → seen_pairs r.pairs.items ≡ with_pair k v (seen_pairs (get_or rs i d).pairs.items)
        → record { are : AreRuns (set rs i r); pairs : seen_runs (set rs i r) ≡ with_pair k v (seen_runs rs) }
    put_in_run rs i d r are own within shows =
        let pairs = with_run rs i d r own within shows in
        let some : 0 < length r.pairs.items = let count = ap length shows in omega
        (arith, count, length-map {B = Datum × Datum} r.pairs.items seen_pair, with_some (seen_pairs (get_or rs i d).pairs.items)) in
        record { are = (filled_with rs i r are.0 some, subst KeysRise (sym pairs) (keys_rise k v (seen_runs rs) are.1)); pairs = pairs }

-- the pairs up to a run and those of the run are no more than all
pub counted_to : (rs : List Run) (i : ℕ) (d : Run) → i < length rs
    → length (seen_runs (take i rs)) + length (get_or rs i d).pairs.items ≤ length (seen_runs rs)
counted_to [] i d within = absurd (omega arith)
counted_to (r ∷ rs) zero d within =
    omega (arith, length-append (seen_pairs r.pairs.items) (seen_runs rs), length-map {B = Datum × Datum} r.pairs.items seen_pair)
counted_to (r ∷ rs) (suc i) d within =
    let front = length-append (seen_pairs r.pairs.items) (seen_runs (take i rs)) in
    omega (arith, counted_to rs i d (omega arith), length-append (seen_pairs r.pairs.items) (seen_runs rs), front)

-- one run more
pub count_more : (rs : List Run) (i : ℕ) (d : Run) → i < length rs
    → length (seen_runs (take (i + 1) rs)) ≡ length (seen_runs (take i rs)) + length (get_or rs i d).pairs.items
count_more [] i d within = absurd (omega arith)
count_more (r ∷ rs) zero d within = omega (arith, length-append (seen_pairs r.pairs.items) [], length-map {B = Datum × Datum} r.pairs.items seen_pair)
count_more (r ∷ rs) (suc i) d within =
    let further : suc i + 1 ≡ suc (i + 1) = omega arith in
    ap (λ n. length (seen_runs (take n (r ∷ rs)))) further
    ∙ omega (
      arith,
      count_more rs i d (omega arith),
      length-append (seen_pairs r.pairs.items) (seen_runs (take (i + 1) rs)),
      length-append (seen_pairs r.pairs.items)
          (seen_runs (take i rs)),
    )

-- no runs have no pairs
pub none_seen : (rs : List Run) → length rs ≡ 0 → seen_runs rs ≡ []
none_seen [] none = refl
none_seen (r ∷ rs) none = absurd (omega arith)

-- another run in the stead of one
pub count_with : (rs : List Run) (i : ℕ) (d r : Run) → i < length rs
    → length (seen_runs (set rs i r)) + length (get_or rs i d).pairs.items ≡ length (seen_runs rs) + length r.pairs.items
count_with [] i d r within = absurd (omega arith)
count_with (s ∷ rs) zero d r within =
    omega (
      arith,
      length-append (seen_pairs s.pairs.items) (seen_runs rs),
      length-append (seen_pairs r.pairs.items) (seen_runs rs),
      length-map {B = Datum × Datum} s.pairs.items seen_pair,
      length-map {B = Datum × Datum} r.pairs.items seen_pair,
    )
count_with (s ∷ rs) (suc i) d r within =
    omega (
      arith,
      count_with rs i d r (omega arith),
      length-append (seen_pairs s.pairs.items) (seen_runs rs),
      length-append (seen_pairs s.pairs.items) (seen_runs
          (set rs i r)),
    )

-- a run of the same pairs in the stead of one
pub same_seen : (rs : List Run) (i : ℕ) (d r : Run) → i < length rs → r.pairs.items ≡ (get_or rs i d).pairs.items → seen_runs (set rs i r) ≡ seen_runs rs
same_seen [] i d r within same = absurd (omega arith)
same_seen (s ∷ rs) zero d r within same = ap (λ t. map seen_pair t ++ seen_runs rs) same
same_seen (s ∷ rs) (suc i) d r within same = ap (λ t. seen_pairs s.pairs.items ++ t) (same_seen rs i d r (omega arith) same)

pub same_filled : (rs : List Run) (i : ℕ) (d r : Run) → AreFilled rs → i < length rs → r.pairs.items ≡ (get_or rs i d).pairs.items → AreFilled (set rs i r)
same_filled [] i d r filled within same = absurd (omega arith)
same_filled (s ∷ rs) zero d r filled within same = (omega (arith, ap length same, filled.0), filled.1)
same_filled (s ∷ rs) (suc i) d r filled within same = (filled.0, same_filled rs i d r filled.1 (omega arith) same)

same_run : (rs : List Run) (i : ℕ) (d r : Run) → AreRuns rs → i < length rs → r.pairs.items ≡ (get_or rs i d).pairs.items
    → record { are : AreRuns (set rs i r); pairs : seen_runs (set rs i r) ≡ seen_runs rs }
same_run rs i d r are within same =
    let pairs = same_seen rs i d r within same in
    record { are = (same_filled rs i d r are.0 within same, subst KeysRise (sym pairs) are.1); pairs = pairs }

-- r is the run at the place i, and the key k lies in it or would lie there
pub record IsOwn (k : Datum) (rs : List Run) (i : ℕ) (r : Run) : Type 0 where
  pub is : r ≡ get_or rs i r
  pub within : i < length rs
  pub own : IsRunFor k i rs

-- this of runs that are known by another name, too
pub own_run : {k : Datum} {rs ts : List Run} {i : ℕ} {r : Run} → ts ≡ rs → r ≡ get_or rs i r → i < length ts → IsRunFor k i ts → IsOwn k rs i r
own_run {k = k} {i = i} same is within own = record { is = is; within = subst (λ us. i < length us) same within; own = subst (IsRunFor k i) same own }

module _ {k : Datum} {rs : List Run} {i : ℕ} {r : Run} (run : IsOwn k rs i r) where
  -- its keys rise
  pub rise_at : AreRuns rs → KeysRise (seen_pairs r.pairs.items)
  rise_at are = subst (λ s. KeysRise (seen_pairs s.pairs.items)) (sym run.is) (rise_run rs i r are.1 run.within)

  -- a look-up of the key
  pub value_at_run : value_at k (seen_runs rs) ≡ value_at k (seen_pairs r.pairs.items)
  value_at_run = value_of_run k rs i r run.own run.within ∙ ap (λ s. value_at k (seen_pairs s.pairs.items)) (sym run.is)

  -- the place of the key
  pub place_at_run : (n : ℕ) → IsPlaceOf k n (seen_pairs r.pairs.items) → IsPlaceOf k (length (seen_runs (take i rs)) + n) (seen_runs rs)
  place_at_run n at = place_of_run k rs i r n run.own run.within (subst (λ s. IsPlaceOf k n (seen_pairs s.pairs.items)) run.is at)

  -- what is put into the run is put among all pairs
  pub put_at_run : (v : Datum) (made : Run) → AreRuns rs → seen_pairs made.pairs.items ≡ with_pair k v (seen_pairs r.pairs.items)
      → record { are : AreRuns (set rs i made); pairs : seen_runs (set rs i made) ≡ with_pair k v (seen_runs rs) }
  put_at_run v made are shows =
      put_in_run k v rs i r made are run.own run.within (shows ∙ ap (λ s. with_pair k v (seen_pairs s.pairs.items)) run.is)

  -- how many pairs there are with another run in its stead
  pub count_at_run : (made : Run) → length (seen_runs (set rs i made)) + length r.pairs.items ≡ length (seen_runs rs) + length made.pairs.items
  count_at_run made = ap (λ s. length (seen_runs (set rs i made)) + length s.pairs.items) run.is ∙ count_with rs i r made run.within

  -- a run of the same pairs in its stead changes nothing
  pub same_at_run : (made : Run) → AreRuns rs → made.pairs.items ≡ r.pairs.items
      → record { are : AreRuns (set rs i made); pairs : seen_runs (set rs i made) ≡ seen_runs rs }
  same_at_run made are same = same_run rs i r made are run.within (same ∙ ap (λ s. s.pairs.items) run.is)

-- what follows from either answer
pub either : {T E P Q G : Type 0} (r : Result T E) → OnOk r P → OnErr r Q → (P → G) → (Q → G) → G
either (Ok x) ok err from_ok from_err = from_ok ok
either (Err x) ok err from_ok from_err = from_err err

pub after_ok : {T E : Type 0} {P Q : T → Type 0} (r : Result T E) → IfOk r P → ((x : T) → P x → Q x) → IfOk r Q
after_ok (Ok x) ok from = from x ok
after_ok (Err x) ok from = tt

pub after_err : {T E : Type 0} {P Q : E → Type 0} (r : Result T E) → IfErr r P → ((x : E) → P x → Q x) → IfErr r Q
after_err (Ok x) err from = tt
after_err (Err x) err from = from x err

pub for_err : {T E P : Type 0} (r : Result T E) → P → OnErr r P
for_err (Ok x) p = tt
for_err (Err x) p = p
