-- What the rows of joined lists need of each part: its rows.
use Rattle.std.proofs.Common.{◌≡◌, ◌∙◌, ℕ, zero, suc, ◌≤◌, ℤ, Bool, true, false, cond, true≢false, None, List, [], ◌∷◌, ◌++◌, map, take, length, refl, sym, ap, arith}
use Rattle.std.proofs.Common.{Ordering, Less, Equal, Greater, is_eq, is_gt, ltb-true, lt-ltb}
use Rattle.std.specs.Prelude.{nat_lt}
use Rattle.std.specs.List.{dedup, dedup_from}
use Rattle.std.specs.Cmp.{IsTotalOrder}
use Rattle.std.specs.Ordering.{eq_by_cmp, match_ordering, ordering_reverse}
use Rattle.std.specs.BTreeSet.{insert_key}
use Rattle.std.proofs.lemmas.List.{map-append}
use Rattle.std.proofs.lemmas.List.Sorted.{IsPermutation-append_comm}
use Rattle.sz_types.specs.Tables.{Declaration}
use Rattle.sz_types.specs.declared.table.TableKind.{TableKind}
use Rattle.sz_types.specs.declared.table.TableKind.TheVariants.{Sum, Maximum, Minimum, Set, Collection}
use Rattle.sz_value.specs.Data.{Datum}
use Rattle.sz_value.specs.Order.{compare}
use Rattle.sz_value.specs.Total.{compare_total, compare_ties}
use Rattle.sz_tabs.specs.Data.{Weighted, one, sums, overflow, RowDatum}
use Rattle.sz_tabs.specs.Sorting.{inserted, sorted, distinct}
use Rattle.sz_tabs.specs.Rows.{values_of, components_of, plus, sums_of, value_row, weighted_row, overflow_row, sum_rows, set_rows, rows_by, rows_of}
use Rattle.sz_tabs.specs.Laws.{DecidedByRows, JoinedByRows}
use Rattle.sz_tabs.proofs.SortingLemmas.{Ascends, sorted_ascends, sorted_in_any_order}
use Rattle.sz_tabs.proofs.RowsLemmas.{least_total, least_ties, greatest_total, greatest_ties, plus_assoc, rows_in_any_order}

module _ {X : Type 0} (cmp : X → X → Ordering) where
  -- all elements of the first list inserted into the second
  abbrev pub all_inserted : List X → List X → List X
  all_inserted [] ys = ys
  all_inserted (x ∷ xs) ys = inserted cmp x (all_inserted xs ys)

  pub sorted_of_both : (xs ys : List X) → sorted cmp (xs ++ ys) ≡ all_inserted xs (sorted cmp ys)
  sorted_of_both [] ys = refl
  sorted_of_both (x ∷ xs) ys = ap (inserted cmp x) (sorted_of_both xs ys)

  take_of_one_more : (n : ℕ) (ys : List X) → take n (take (suc n) ys) ≡ take n ys
  take_of_one_more zero ys = refl
  take_of_one_more (suc n) [] = refl
  take_of_one_more (suc n) (y ∷ ys) = ap (λ l. y ∷ l) (take_of_one_more n ys)

  take_after : (n : ℕ) (y : X) (ys : List X) → take n (y ∷ ys) ≡ take n (y ∷ take n ys)
  take_after zero y ys = refl
  take_after (suc n) y ys = ap (λ l. y ∷ l) (sym (take_of_one_more n ys))

  -- the first n after an insertion need only the first n before it
  pub taken_of_inserted : (n : ℕ) (x : X) (ys : List X)
      → take n (inserted cmp x ys) ≡ take n (inserted cmp x (take n ys))
  taken_of_inserted zero x ys = refl
  taken_of_inserted (suc n) x [] = refl
  taken_of_inserted (suc n) x (y ∷ ys) = by_test (is_gt (cmp x y)) (taken_of_inserted n x ys)
    where
      by_test : (b : Bool) → take n (inserted cmp x ys) ≡ take n (inserted cmp x (take n ys))
          → take (suc n) (cond b (y ∷ inserted cmp x ys) (x ∷ y ∷ ys))
          ≡ take (suc n) (cond b (y ∷ inserted cmp x (take n ys)) (x ∷ y ∷ take n ys))
      by_test true later = ap (λ l. y ∷ l) later
      by_test false later = ap (λ l. x ∷ l) (take_after n y ys)

  pub taken_of_all : (n : ℕ) (xs ys zs : List X) → take n ys ≡ take n zs
      → take n (all_inserted xs ys) ≡ take n (all_inserted xs zs)
  taken_of_all n [] ys zs alike = alike
  taken_of_all n (x ∷ xs) ys zs alike =
      taken_of_inserted n x (all_inserted xs ys) ∙ ap (λ l. take n (inserted cmp x l)) (taken_of_all n xs ys zs alike)
      ∙ sym (taken_of_inserted n x (all_inserted xs zs))

  -- all elements of the first list entered into the second, each once
  abbrev pub all_entered : List X → List X → List X
  all_entered [] ys = ys
  all_entered (x ∷ xs) ys = insert_key cmp (all_entered xs ys) x

  length_of_entered : (ys : List X) (x : X) → length ys ≤ length (insert_key cmp ys x)
  length_of_entered [] x = omega arith
  length_of_entered (y ∷ ys) x = by_found (cmp x y) (length_of_entered ys x)
    where
      by_found : (found : Ordering) → length ys ≤ length (insert_key cmp ys x)
          → length (y ∷ ys) ≤ length (match_ordering found (x ∷ y ∷ ys) (y ∷ ys) (y ∷ insert_key cmp ys x))
      by_found Less later = omega arith
      by_found Equal later = omega arith
      by_found Greater later = omega arith

  length_of_all_entered : (xs ys : List X) → length ys ≤ length (all_entered xs ys)
  length_of_all_entered [] ys = omega arith
  length_of_all_entered (x ∷ xs) ys =
      omega (arith, length_of_all_entered xs ys, length_of_entered (all_entered xs ys) x)

module _ {X : Type 0} {cmp : X → X → Ordering} (total : IsTotalOrder cmp)
    (same : (x y : X) → cmp x y ≡ Equal → x ≡ y) where
  -- one element of each run of elements that tie, where the run of k goes on
  abbrev once_from : X → List X → List X
  once_from k ys = dedup_from (eq_by_cmp cmp) k ys

  dropped : (k y : X) (ys : List X) → cmp y k ≡ Equal → once_from k (y ∷ ys) ≡ once_from k ys
  dropped k y ys tied = ap (λ b. cond b (once_from k ys) (k ∷ once_from y ys)) (ap is_eq tied)

  kept : (k y : X) (ys : List X) → is_eq (cmp y k) ≡ false → once_from k (y ∷ ys) ≡ k ∷ once_from y ys
  kept k y ys apart = ap (λ b. cond b (once_from k ys) (k ∷ once_from y ys)) apart

  stays_in_front : (x y : X) (ys : List X) → is_gt (cmp x y) ≡ false → inserted cmp x (y ∷ ys) ≡ x ∷ y ∷ ys
  stays_in_front x y ys below = ap (λ b. cond b (y ∷ inserted cmp x ys) (x ∷ y ∷ ys)) below

  goes_past : (x y : X) (ys : List X) → cmp x y ≡ Greater → inserted cmp x (y ∷ ys) ≡ y ∷ inserted cmp x ys
  goes_past x y ys above = ap (λ b. cond b (y ∷ inserted cmp x ys) (x ∷ y ∷ ys)) (ap is_gt above)

  entered_past : (x y : X) (ys : List X) → cmp x y ≡ Greater → insert_key cmp (y ∷ ys) x ≡ y ∷ insert_key cmp ys x
  entered_past x y ys above = ap (λ found. match_ordering found (x ∷ y ∷ ys) (y ∷ ys) (y ∷ insert_key cmp ys x)) above

  -- a run begins with its first element
  first_kept : (k : X) (ys : List X) → (rest : List X) × (once_from k ys ≡ k ∷ rest)
  first_kept k [] = ([], refl)
  first_kept k (y ∷ ys) = by_test (eq_by_cmp cmp y k) (first_kept k ys)
    where
      by_test : (b : Bool) → (rest : List X) × (once_from k ys ≡ k ∷ rest)
          → (rest : List X) × (cond b (once_from k ys) (k ∷ once_from y ys) ≡ k ∷ rest)
      by_test true later = later
      by_test false later = (once_from y ys, refl)

  entered_before : (x k : X) (ys : List X) → cmp x k ≡ Less → insert_key cmp (once_from k ys) x ≡ x ∷ once_from k ys
  entered_before x k ys below =
      let first = first_kept k ys in
      ap (λ l. insert_key cmp l x) first.1
      ∙ ap (λ found. match_ordering found (x ∷ k ∷ first.0) (k ∷ first.0) (k ∷ insert_key cmp first.0 x)) below
      ∙ ap (λ l. x ∷ l) (sym first.1)

  entered_again : (x k : X) (ys : List X) → cmp x k ≡ Equal → insert_key cmp (once_from k ys) x ≡ once_from k ys
  entered_again x k ys tied =
      let first = first_kept k ys in
      ap (λ l. insert_key cmp l x) first.1
      ∙ ap (λ found. match_ordering found (x ∷ k ∷ first.0) (k ∷ first.0) (k ∷ insert_key cmp first.0 x)) tied
      ∙ sym first.1

  turned : (x y : X) (found : Ordering) → cmp x y ≡ found → cmp y x ≡ ordering_reverse found
  turned x y found is = total.antisymm y x ∙ ap ordering_reverse is

  -- what comes in front of y or ties with it, is entered in front of y's run or changes nothing
  in_front : (x y : X) (ys : List X) (found : Ordering) → cmp x y ≡ found → is_gt found ≡ false
      → once_from x (y ∷ ys) ≡ insert_key cmp (once_from y ys) x
  in_front x y ys Less is below = kept x y ys (ap is_eq (turned x y Less is)) ∙ sym (entered_before x y ys is)
  in_front x y ys Equal is below =
      dropped x y ys (turned x y Equal is) ∙ ap (λ k. once_from k ys) (same x y is) ∙ sym (entered_again x y ys is)
  in_front x y ys Greater is below = absurd (true≢false below)

  -- what lies after y, where y is above k
  still_above : (k x y : X) (found : Ordering) → cmp x k ≡ Greater → cmp x y ≡ found → is_gt found ≡ false
      → cmp y k ≡ Greater
  still_above k x y Less above is below = turned k y Less (total.trans k x y (turned x k Greater above) is)
  still_above k x y Equal above is below = sym (total.congr x y k is) ∙ above
  still_above k x y Greater above is below = absurd (true≢false below)

  -- an element above k is inserted after k's run as it is entered there
  entered_above : (k x : X) (ys : List X) → cmp x k ≡ Greater → Ascends total (k ∷ ys)
      → once_from k (inserted cmp x ys) ≡ insert_key cmp (once_from k ys) x
  entered_above k x [] above up = kept k x [] (ap is_eq above) ∙ sym (entered_past x k [] above)
  entered_above k x (y ∷ ys) above up =
      by_found (cmp x y) refl (entered_above k x ys above (up.0.1, up.1.1)) (λ higher. entered_above y x ys higher up.1)
    where
      in_run : (b : Bool) → once_from k (inserted cmp x ys) ≡ insert_key cmp (once_from k ys) x
          → once_from y (inserted cmp x ys) ≡ insert_key cmp (once_from y ys) x
          → cond b (once_from k (inserted cmp x ys)) (k ∷ once_from y (inserted cmp x ys))
          ≡ insert_key cmp (cond b (once_from k ys) (k ∷ once_from y ys)) x
      in_run true after_k after_y = after_k
      in_run false after_k after_y = ap (λ l. k ∷ l) after_y ∙ sym (entered_past x k (once_from y ys) above)

      ahead : (found : Ordering) → cmp x y ≡ found → is_gt found ≡ false
          → once_from k (inserted cmp x (y ∷ ys)) ≡ insert_key cmp (once_from k (y ∷ ys)) x
      ahead found is below =
          let apart = ap is_eq (still_above k x y found above is below) in
          ap (once_from k) (stays_in_front x y ys (ap is_gt is ∙ below)) ∙ kept k x (y ∷ ys) (ap is_eq above)
          ∙ ap (λ l. k ∷ l) (in_front x y ys found is below)
          ∙ sym (ap (λ l. insert_key cmp l x) (kept k y ys apart) ∙ entered_past x k (once_from y ys) above)

      by_found : (found : Ordering) → cmp x y ≡ found
          → once_from k (inserted cmp x ys) ≡ insert_key cmp (once_from k ys) x
          → (cmp x y ≡ Greater → once_from y (inserted cmp x ys) ≡ insert_key cmp (once_from y ys) x)
          → once_from k (inserted cmp x (y ∷ ys)) ≡ insert_key cmp (once_from k (y ∷ ys)) x
      by_found Less is after_k after_y = ahead Less is refl
      by_found Equal is after_k after_y = ahead Equal is refl
      by_found Greater is after_k after_y =
          ap (once_from k) (goes_past x y ys is) ∙ in_run (eq_by_cmp cmp y k) after_k (after_y is)

  distinct_of_inserted : (x : X) (ys : List X) → Ascends total ys
      → dedup (eq_by_cmp cmp) (inserted cmp x ys) ≡ insert_key cmp (dedup (eq_by_cmp cmp) ys) x
  distinct_of_inserted x [] up = refl
  distinct_of_inserted x (y ∷ ys) up = by_found (cmp x y) refl
    where
      by_found : (found : Ordering) → cmp x y ≡ found
          → dedup (eq_by_cmp cmp) (inserted cmp x (y ∷ ys)) ≡ insert_key cmp (once_from y ys) x
      by_found Less is = ap (dedup (eq_by_cmp cmp)) (stays_in_front x y ys (ap is_gt is)) ∙ in_front x y ys Less is refl
      by_found Equal is = ap (dedup (eq_by_cmp cmp)) (stays_in_front x y ys (ap is_gt is))
          ∙ in_front x y ys Equal is refl
      by_found Greater is = ap (dedup (eq_by_cmp cmp)) (goes_past x y ys is) ∙ entered_above y x ys is up

  -- the distinct elements of both lists are those of the second and then those of the first that are new
  pub distinct_of_both : (xs ys : List X) → distinct cmp (xs ++ ys) ≡ all_entered cmp xs (distinct cmp ys)
  distinct_of_both [] ys = refl
  distinct_of_both (x ∷ xs) ys =
      distinct_of_inserted x (sorted cmp (xs ++ ys)) (sorted_ascends total (xs ++ ys))
      ∙ ap (λ l. insert_key cmp l x) (distinct_of_both xs ys)

  -- either list may come first
  pub sorted_of_either : (xs ys : List X) → sorted cmp (xs ++ ys) ≡ all_inserted cmp ys (sorted cmp xs)
  sorted_of_either xs ys = sorted_in_any_order total same (xs ++ ys) (ys ++ xs) (IsPermutation-append_comm xs ys)
      ∙ sorted_of_both cmp ys xs

  pub distinct_of_either : (xs ys : List X) → distinct cmp (xs ++ ys) ≡ all_entered cmp ys (distinct cmp xs)
  distinct_of_either xs ys =
      ap (dedup (eq_by_cmp cmp)) (sorted_in_any_order total same (xs ++ ys) (ys ++ xs)
      (IsPermutation-append_comm xs ys)) ∙ distinct_of_both ys xs

  -- the first n of both lists need only the first n of each
  pub first_of_either : (n : ℕ) (xs ys zs : List X) → take n (sorted cmp xs) ≡ take n (sorted cmp ys)
      → take n (sorted cmp (xs ++ zs)) ≡ take n (sorted cmp (ys ++ zs))
  first_of_either n xs ys zs alike =
      ap (take n) (sorted_of_either xs zs) ∙ taken_of_all cmp n zs (sorted cmp xs) (sorted cmp ys) alike
      ∙ sym (ap (take n) (sorted_of_either ys zs))

-- rows tell the values and weights that they show
value_told : (d e : Datum) → value_row d ≡ value_row e → d ≡ e
value_told d e h = let shown : one d ≡ one e = ap (λ (r : RowDatum). r.shown) h in cc

values_told : (ds es : List Datum) → map value_row ds ≡ map value_row es → ds ≡ es
values_told [] [] h = refl
values_told [] (e ∷ es) h = absurd (cc)
values_told (d ∷ ds) [] h = absurd (cc)
values_told (d ∷ ds) (e ∷ es) h =
    let first : value_row d ≡ value_row e = cc in
    let later : map value_row ds ≡ map value_row es = cc in
    λ i. value_told d e first i ∷ values_told ds es later i

weighted_told : (v w : Weighted) → weighted_row v ≡ weighted_row w → v ≡ w
weighted_told v w h =
    let shown : one v.value ≡ one w.value = ap (λ (r : RowDatum). r.shown) h in
    let value : v.value ≡ w.value = cc in
    λ i. record { value = value i; weight = (h i).weight }

all_told : (vs ws : List Weighted) → map weighted_row vs ≡ map weighted_row ws → vs ≡ ws
all_told [] [] h = refl
all_told [] (w ∷ ws) h = absurd (cc)
all_told (v ∷ vs) [] h = absurd (cc)
all_told (v ∷ vs) (w ∷ ws) h =
    let first : weighted_row v ≡ weighted_row w = cc in
    let later : map weighted_row vs ≡ map weighted_row ws = cc in
    λ i. weighted_told v w first i ∷ all_told vs ws later i

-- the sums of joined lists
pub sums_of_both : (us vs : List Datum) → sums_of (us ++ vs) ≡ plus (sums_of us) (sums_of vs)
sums_of_both [] vs = refl
sums_of_both (u ∷ us) vs = ap (plus (components_of u)) (sums_of_both us vs)
    ∙ plus_assoc (components_of u) (sums_of us) (sums_of vs)

abbrev row_of_sums : List ℤ → RowDatum
row_of_sums numbers = record { shown = sums numbers; weight = None }

sums_decided : (us vs ws : List Datum) → sum_rows us ≡ sum_rows vs → sum_rows (us ++ ws) ≡ sum_rows (vs ++ ws)
sums_decided [] [] ws h = refl
sums_decided [] (v ∷ vs) ws h = absurd (cc)
sums_decided (u ∷ us) [] ws h = absurd (cc)
sums_decided (u ∷ us) (v ∷ vs) ws h =
    let first : row_of_sums (sums_of (u ∷ us)) ≡ row_of_sums (sums_of (v ∷ vs)) = cc in
    let shown : sums (sums_of (u ∷ us)) ≡ sums (sums_of (v ∷ vs)) = ap (λ (r : RowDatum). r.shown) first in
    let numbers : sums_of (u ∷ us) ≡ sums_of (v ∷ vs) = cc in
    ap (λ ns. row_of_sums ns ∷ [])
    (sums_of_both (u ∷ us) ws ∙ ap (λ ns. plus ns (sums_of ws)) numbers ∙ sym (sums_of_both (v ∷ vs) ws))

-- a set that is full stays full
full_stays : (limit : ℕ) (ds more : List Datum) → nat_lt limit (length ds) ≡ true
    → set_rows limit (all_entered compare more ds) ≡ overflow_row ∷ []
full_stays limit ds more full =
    let above = ltb-true limit (length ds) full in
    let still = lt-ltb limit (length (all_entered compare more ds))
    (omega (arith, length_of_all_entered compare more ds, above)) in
    ap (λ b. cond b (overflow_row ∷ []) (map value_row (all_entered compare more ds))) still

no_value_overflows : (es : List Datum) → overflow_row ∷ [] ≡ map value_row es → ⊥
no_value_overflows [] h = cc
no_value_overflows (e ∷ es) h =
    let first : overflow_row ≡ value_row e = cc in
    let shown : overflow ≡ one e = ap (λ (r : RowDatum). r.shown) first in cc

set_decided : (limit : ℕ) (ds es more : List Datum) → set_rows limit ds ≡ set_rows limit es
    → set_rows limit (all_entered compare more ds) ≡ set_rows limit (all_entered compare more es)
set_decided limit ds es more h = by_tests (nat_lt limit (length ds)) (nat_lt limit (length es)) refl refl h
  where
    by_tests : (p q : Bool) → nat_lt limit (length ds) ≡ p → nat_lt limit (length es) ≡ q
        → cond p (overflow_row ∷ []) (map value_row ds) ≡ cond q (overflow_row ∷ []) (map value_row es)
        → set_rows limit (all_entered compare more ds) ≡ set_rows limit (all_entered compare more es)
    by_tests true true p q rows = full_stays limit ds more p ∙ sym (full_stays limit es more q)
    by_tests true false p q rows = absurd (no_value_overflows es rows)
    by_tests false true p q rows = absurd (no_value_overflows ds (sym rows))
    by_tests false false p q rows = ap (λ l. set_rows limit (all_entered compare more l)) (values_told ds es rows)

values_of_both : (vs ws : List Weighted) → values_of (vs ++ ws) ≡ values_of vs ++ values_of ws
values_of_both vs ws = map-append (λ (w : Weighted). w.value) vs ws

decided_by : (kind : TableKind) (limit : ℕ) (front other later : List Weighted)
    → rows_by kind limit front ≡ rows_by kind limit other
    → rows_by kind limit (front ++ later) ≡ rows_by kind limit (other ++ later)
decided_by Sum limit front other later h =
    ap sum_rows (values_of_both front later) ∙ sums_decided (values_of front) (values_of other) (values_of later) h
    ∙ sym (ap sum_rows (values_of_both other later))
decided_by Maximum limit front other later h =
    ap (map weighted_row) (first_of_either greatest_total greatest_ties limit front other later (all_told _ _ h))
decided_by Minimum limit front other later h =
    ap (map weighted_row) (first_of_either least_total least_ties limit front other later (all_told _ _ h))
decided_by Set limit front other later h =
    let either : (ws : List Weighted) → distinct compare (values_of (ws ++ later))
    ≡ all_entered compare (values_of later) (distinct compare (values_of ws)) =
    λ ws. ap (distinct compare) (values_of_both ws later)
    ∙ distinct_of_either compare_total compare_ties (values_of ws) (values_of later) in
    ap (set_rows limit) (either front)
    ∙ set_decided limit (distinct compare (values_of front)) (distinct compare (values_of other)) (values_of later) h
    ∙ sym (ap (set_rows limit) (either other))
decided_by Collection limit front other later h =
    let either : (ws : List Weighted) → sorted compare (values_of (ws ++ later))
    ≡ all_inserted compare (values_of later) (sorted compare (values_of ws)) =
    λ ws. ap (sorted compare) (values_of_both ws later)
    ∙ sorted_of_either compare_total compare_ties (values_of ws) (values_of later) in
    ap (map value_row)
    (either front ∙ ap (all_inserted compare (values_of later))
    (values_told (sorted compare (values_of front)) (sorted compare (values_of other)) h)
    ∙ sym (either other))

pub rows_decide : DecidedByRows
rows_decide table front other later h = decided_by table.kind table.limit front other later h

-- what stands after may be put in front
turned_round : (table : Declaration) (front later : List Weighted)
    → rows_of table (front ++ later) ≡ rows_of table (later ++ front)
turned_round table front later =
    rows_in_any_order table (front ++ later) (later ++ front) (IsPermutation-append_comm front later)

pub rows_join : JoinedByRows
rows_join table front other later beyond h k =
    rows_decide table front other later h ∙ turned_round table other later
    ∙ rows_decide table later beyond other k ∙ turned_round table beyond other
