-- The rows of both sides can be saved where those of each side can.
use Rattle.std.proofs.Common.{◌≡◌, ◌∙◌, ℕ, zero, suc, ◌+◌, ◌≤◌, ℤ, nat_lt, Bool, true, false, not, ◌||◌, cond, ◌⊎◌, inl, inr, Option, List, [], ◌∷◌, ◌++◌, length, map, take, refl, sym, ap, arith}
use Rattle.std.proofs.Common.{Ordering, is_lt, is_gt}
use Rattle.std.specs.Cmp.{IsTotalOrder, IsStrictWeakOrder, int_cmp_total, then_total, on_total, back_total}
use Rattle.std.specs.Cmp.Lexicographic.{options_total}
use Rattle.std.specs.List.{AllByRecursion, dedup, dedup_from}
use Rattle.std.specs.List.Sorted.{IsStrictlySortedBy}
use Rattle.std.specs.Ordering.{eq_by_cmp}
use Rattle.std.proofs.lemmas.Bool.{and_from, cond_both, ltb-false}
use Rattle.std.proofs.lemmas.List.MinMax.{ranks_by}
use Rattle.std.proofs.lemmas.List.Sorted.{length_permutation}
use Rattle.sz_types.specs.Data.{Shape}
use Rattle.sz_value.specs.Data.{Datum}
use Rattle.sz_value.specs.Order.{compare}
use Rattle.sz_value.specs.Total.{compare_total, compare_ties}
use Rattle.sz_types.specs.declared.table.TableKind.TheVariants.{Maximum, Minimum, Set, Collection}
use Rattle.sz_tabs.specs.Data.{Shown, one, sums, overflow, RowDatum}
use Rattle.sz_tabs.specs.Sorting.{sorted, distinct}
use Rattle.sz_tabs.specs.Rows.{value_row, overflow_row, set_rows}
use Rattle.sz_tabs.proofs.ForCallers.{Ascends, sorted_ascends, sorted_is_permutation, distinct_rises}
use Rattle.sz_tabs.proofs.SortingLemmas.{all_inserted}
use Rattle.sz_save_format.specs.Entries.{overflows, IsSavedValue, ShowsSavedValue, IsSavedRow, AreSavedRows, shown_may_follow, row_may_follow, in_order}
use Rattle.sz_save.specs.Joined.{value_in, values_shown, least_rows, greatest_rows, joined_sets}

pub least_rows_total : IsTotalOrder least_rows
least_rows_total =
    then_total (on_total (λ (row : RowDatum). row.weight) (options_total int_cmp_total))
    (on_total (λ (row : RowDatum). value_in row.shown) (options_total compare_total))

pub greatest_rows_total : IsTotalOrder greatest_rows
greatest_rows_total =
    then_total (on_total (λ (row : RowDatum). row.weight) (back_total (options_total int_cmp_total)))
    (on_total (λ (row : RowDatum). value_in row.shown) (options_total compare_total))

-- ---- lists

module _ {X : Type 0} (P : X → Type 0) where
  pub all_both : (xs ys : List X) → AllByRecursion P xs → AllByRecursion P ys → AllByRecursion P (xs ++ ys)
  all_both [] ys g h = h
  all_both (x ∷ xs) ys g h = (g.0, all_both xs ys g.1 h)

  all_taken : (n : ℕ) (xs : List X) → AllByRecursion P xs → AllByRecursion P (take n xs)
  all_taken zero xs h = tt
  all_taken (suc n) [] h = tt
  all_taken (suc n) (x ∷ xs) h = (h.0, all_taken n xs h.1)

  module _ {cmp : X → X → Ordering} (total : IsTotalOrder cmp) where
    all_sorted : (xs : List X) → AllByRecursion P xs → AllByRecursion P (sorted cmp xs)
    all_sorted [] h = tt
    all_sorted (x ∷ xs) h = all_inserted total P x (sorted cmp xs) h.0 (all_sorted xs h.1)

    all_from : (k : X) (xs : List X) → P k → AllByRecursion P xs → AllByRecursion P (dedup_from (eq_by_cmp cmp) k xs)
    all_from k [] p h = (p, tt)
    all_from k (x ∷ xs) p h =
        cond_both (eq_by_cmp cmp x k) (dedup_from (eq_by_cmp cmp) k xs) (k ∷ dedup_from (eq_by_cmp cmp) x xs)
        (AllByRecursion P) (λ _. all_from k xs p h.1) (λ _. (p, all_from x xs h.0 h.1))

    all_distinct_of : (xs : List X) → AllByRecursion P xs → AllByRecursion P (dedup (eq_by_cmp cmp) xs)
    all_distinct_of [] h = tt
    all_distinct_of (x ∷ xs) h = all_from x xs h.0 h.1

    pub all_distinct : (xs : List X) → AllByRecursion P xs → AllByRecursion P (distinct cmp xs)
    all_distinct xs h = all_distinct_of (sorted cmp xs) (all_sorted xs h)

pub some_taken : {X : Type 0} (n : ℕ) (xs : List X) → 1 ≤ n → 1 ≤ length xs → 1 ≤ length (take n xs)
some_taken zero xs some long = absurd (omega (arith, some))
some_taken (suc n) [] some long = absurd (omega (arith, long))
some_taken (suc n) (x ∷ xs) some long = omega arith

pub few_taken : {X : Type 0} (n : ℕ) (xs : List X) → length (take n xs) ≤ n
few_taken zero xs = omega arith
few_taken (suc n) [] = omega arith
few_taken (suc n) (x ∷ xs) = omega (arith, few_taken n xs)

module _ {X : Type 0} {cmp : X → X → Ordering} (total : IsTotalOrder cmp) where
  pub sorted_long : (xs : List X) → length (sorted cmp xs) ≡ length xs
  sorted_long xs = let same = length_permutation xs (sorted cmp xs) (sorted_is_permutation total xs) in
      omega (arith, same)

  some_from : (k : X) (xs : List X) → 1 ≤ length (dedup_from (eq_by_cmp cmp) k xs)
  some_from k [] = omega arith
  some_from k (x ∷ xs) =
      cond_both (eq_by_cmp cmp x k) (dedup_from (eq_by_cmp cmp) k xs) (k ∷ dedup_from (eq_by_cmp cmp) x xs)
      (λ l. 1 ≤ length l) (λ _. some_from k xs) (λ _. omega arith)

  some_distinct_of : (xs : List X) → 1 ≤ length xs → 1 ≤ length (dedup (eq_by_cmp cmp) xs)
  some_distinct_of [] long = absurd (omega (arith, long))
  some_distinct_of (x ∷ xs) long = some_from x xs

  pub some_distinct : (xs : List X) → 1 ≤ length xs → 1 ≤ length (distinct cmp xs)
  some_distinct xs long = let same = sorted_long xs in some_distinct_of (sorted cmp xs) (omega (arith, same, long))

  pub taken_ascends : (n : ℕ) (xs : List X) → Ascends total xs → Ascends total (take n xs)
  taken_ascends zero xs up = tt
  taken_ascends (suc n) [] up = tt
  taken_ascends (suc n) (x ∷ xs) up = (all_taken (λ y. is_gt (cmp x y) ≡ false) n xs up.0, taken_ascends n xs up.1)

-- ---- the order of rows

module _ (ranked : Bool) (element : Shape) where
  greatest_follows : (s t : Shown) (w u : Option ℤ) → ShowsSavedValue element s → ShowsSavedValue element t
      → is_gt (greatest_rows (record { shown = s; weight = w }) (record { shown = t; weight = u })) ≡ false
      → shown_may_follow Maximum s w t u ≡ true
  greatest_follows (one v) (one x) w u g h below = ap not below
  greatest_follows (one v) (sums ns) w u g h below = absurd h
  greatest_follows (one v) overflow w u g h below = absurd h
  greatest_follows (sums ns) t w u g h below = absurd g
  greatest_follows overflow t w u g h below = absurd g

  least_follows : (s t : Shown) (w u : Option ℤ) → ShowsSavedValue element s → ShowsSavedValue element t
      → is_gt (least_rows (record { shown = s; weight = w }) (record { shown = t; weight = u })) ≡ false
      → shown_may_follow Minimum s w t u ≡ true
  least_follows (one v) (one x) w u g h below = ap not below
  least_follows (one v) (sums ns) w u g h below = absurd h
  least_follows (one v) overflow w u g h below = absurd h
  least_follows (sums ns) t w u g h below = absurd g
  least_follows overflow t w u g h below = absurd g

  greatest_in_order : (rows : List RowDatum) → AllByRecursion (IsSavedRow ranked element) rows
      → Ascends greatest_rows_total rows → in_order (row_may_follow Maximum) rows ≡ true
  greatest_in_order [] h up = refl
  greatest_in_order (r ∷ []) h up = refl
  greatest_in_order (r ∷ s ∷ rows) h up =
      and_from (row_may_follow Maximum r s) (in_order (row_may_follow Maximum) (s ∷ rows))
      (greatest_follows r.shown s.shown r.weight s.weight h.0.value h.1.0.value up.0.0)
      (greatest_in_order (s ∷ rows) h.1 up.1)

  least_in_order : (rows : List RowDatum) → AllByRecursion (IsSavedRow ranked element) rows
      → Ascends least_rows_total rows → in_order (row_may_follow Minimum) rows ≡ true
  least_in_order [] h up = refl
  least_in_order (r ∷ []) h up = refl
  least_in_order (r ∷ s ∷ rows) h up =
      and_from (row_may_follow Minimum r s) (in_order (row_may_follow Minimum) (s ∷ rows))
      (least_follows r.shown s.shown r.weight s.weight h.0.value h.1.0.value up.0.0)
      (least_in_order (s ∷ rows) h.1 up.1)

pub ascending_in_order : (ds : List Datum) → Ascends compare_total ds
    → in_order (row_may_follow Collection) (map value_row ds) ≡ true
ascending_in_order [] up = refl
ascending_in_order (d ∷ []) up = refl
ascending_in_order (d ∷ e ∷ ds) up =
    and_from (not (is_gt (compare d e))) (in_order (row_may_follow Collection) (map value_row (e ∷ ds)))
    (ap not up.0.0) (ascending_in_order (e ∷ ds) up.1)

pub strict_in_order : (ds : List Datum) → IsStrictlySortedBy compare ds
    → in_order (row_may_follow Set) (map value_row ds) ≡ true
unfolding IsStrictlySortedBy
strict_in_order [] up = refl
strict_in_order (d ∷ []) up = refl
strict_in_order (d ∷ e ∷ ds) up =
    and_from (is_lt (compare d e)) (in_order (row_may_follow Set) (map value_row (e ∷ ds))) (ap is_lt up.0.0)
    (strict_in_order (e ∷ ds) up.1)

-- ---- rows of values

module _ (element : Shape) where
  pub value_rows_saved : (ds : List Datum) → AllByRecursion (IsSavedValue element) ds
      → AllByRecursion (IsSavedRow false element) (map value_row ds)
  value_rows_saved [] h = tt
  value_rows_saved (d ∷ ds) h = (record { value = h.0; weight = tt }, value_rows_saved ds h.1)

  pub value_rows_long : (ds : List Datum) → length (map value_row ds) ≡ length ds
  value_rows_long [] = refl
  value_rows_long (d ∷ ds) = omega (arith, value_rows_long ds)

  -- the values that such rows show
  one_shown : (shown : Shown) (ds : List Datum) → ShowsSavedValue element shown
      → AllByRecursion (IsSavedValue element) ds
      → AllByRecursion (IsSavedValue element) (Rattle.std.specs.Prelude.option_to_list (value_in shown) ++ ds)
  one_shown (one d) ds g h = (g, h)
  one_shown (sums ns) ds g h = absurd g
  one_shown overflow ds g h = absurd g

  pub shown_saved : (ranked : Bool) (rows : List RowDatum) → AllByRecursion (IsSavedRow ranked element) rows
      → AllByRecursion (IsSavedValue element) (values_shown rows)
  shown_saved ranked [] h = tt
  shown_saved ranked (r ∷ rows) h = one_shown r.shown (values_shown rows) h.0.value (shown_saved ranked rows h.1)

  one_long : (shown : Shown) (ds : List Datum) → ShowsSavedValue element shown
      → length (Rattle.std.specs.Prelude.option_to_list (value_in shown) ++ ds) ≡ length ds + 1
  one_long (one d) ds g = omega arith
  one_long (sums ns) ds g = absurd g
  one_long overflow ds g = absurd g

  pub shown_long : (ranked : Bool) (rows : List RowDatum) → AllByRecursion (IsSavedRow ranked element) rows
      → length (values_shown rows) ≡ length rows
  shown_long ranked [] h = refl
  shown_long ranked (r ∷ rows) h =
      let later = shown_long ranked rows h.1 in
      let first = one_long r.shown (values_shown rows) h.0.value in
      omega (arith, later, first)

  pub maximum_saved : (limit : ℕ) (rows : List RowDatum) → AllByRecursion (IsSavedRow true element) rows
      → 1 ≤ length rows → 1 ≤ limit → AreSavedRows Maximum true limit element (take limit (sorted greatest_rows rows))
  maximum_saved limit rows h some room =
      let all = all_taken (IsSavedRow true element) limit (sorted greatest_rows rows)
      (all_sorted (IsSavedRow true element) greatest_rows_total rows h) in
      record {
        some = some_taken limit (sorted greatest_rows rows) room
            (let same = sorted_long greatest_rows_total rows in omega (arith, same, some));
        few = few_taken limit (sorted greatest_rows rows);
        each = all;
        ordered = greatest_in_order true element (take limit (sorted greatest_rows rows)) all
            (taken_ascends greatest_rows_total limit (sorted greatest_rows rows)
            (sorted_ascends greatest_rows_total rows));
      }

  pub minimum_saved : (limit : ℕ) (rows : List RowDatum) → AllByRecursion (IsSavedRow true element) rows
      → 1 ≤ length rows → 1 ≤ limit → AreSavedRows Minimum true limit element (take limit (sorted least_rows rows))
  minimum_saved limit rows h some room =
      let all = all_taken (IsSavedRow true element) limit (sorted least_rows rows)
      (all_sorted (IsSavedRow true element) least_rows_total rows h) in
      record {
        some = some_taken limit (sorted least_rows rows) room
            (let same = sorted_long least_rows_total rows in omega (arith, same, some));
        few = few_taken limit (sorted least_rows rows);
        each = all;
        ordered = least_in_order true element (take limit (sorted least_rows rows)) all
            (taken_ascends least_rows_total limit (sorted least_rows rows) (sorted_ascends least_rows_total rows));
      }

  pub collection_saved : (most : ℕ) (ds : List Datum) → AllByRecursion (IsSavedValue element) ds → 1 ≤ length ds
      → length ds ≤ most → AreSavedRows Collection false most element (map value_row (sorted compare ds))
  collection_saved most ds h some few =
      let long = value_rows_long (sorted compare ds) in
      let same = sorted_long compare_total ds in
      record {
        some = omega (arith, long, same, some);
        few = omega (arith, long, same, few);
        each = value_rows_saved (sorted compare ds) (all_sorted (IsSavedValue element) compare_total ds h);
        ordered = ascending_in_order (sorted compare ds) (sorted_ascends compare_total ds);
      }

  pub set_saved : (limit : ℕ) (ds : List Datum) → AllByRecursion (IsSavedValue element) ds → 1 ≤ length ds
      → (set_rows limit (distinct compare ds) ≡ overflow_row ∷ [])
      ⊎ AreSavedRows Set false limit element (set_rows limit (distinct compare ds))
  set_saved limit ds h some = by_test (nat_lt limit (length (distinct compare ds))) refl
    where
      by_test : (b : Bool) → nat_lt limit (length (distinct compare ds)) ≡ b
          → (cond b (overflow_row ∷ []) (map value_row (distinct compare ds)) ≡ overflow_row ∷ [])
          ⊎ AreSavedRows Set false limit element (cond b (overflow_row ∷ []) (map value_row (distinct compare ds)))
      by_test true full = inl refl
      by_test false room =
          let long = value_rows_long (distinct compare ds) in
          inr (record {
            some = let there = some_distinct compare_total ds some in omega (arith, long, there);
            few = let below = ltb-false limit (length (distinct compare ds)) room in omega (arith, long, below);
            each = value_rows_saved (distinct compare ds) (all_distinct (IsSavedValue element) compare_total ds h);
            ordered = strict_in_order (distinct compare ds) (distinct_rises compare_total compare_ties ds);
          })

-- a set where neither side has too many values
pub sets_kept : (limit : ℕ) (rows others : List RowDatum) (values : List Datum) → overflows rows ≡ false
    → overflows others ≡ false → values ≡ distinct compare (values_shown rows ++ values_shown others)
    → joined_sets limit rows others ≡ set_rows limit values
sets_kept limit rows others values free other_free are =
    (λ i. cond (free i || other_free i) (overflow_row ∷ [])
    (set_rows limit (distinct compare (values_shown rows ++ values_shown others))))
    ∙ ap (set_rows limit) (sym are)

-- ---- what a stable sort leaves

abbrev pub greatest_less : RowDatum → RowDatum → Bool
greatest_less r s = is_lt (greatest_rows r s)

pub greatest_ordered : IsStrictWeakOrder greatest_less
greatest_ordered = ranks_by greatest_rows_total (λ (r : RowDatum). r)

abbrev pub least_less : RowDatum → RowDatum → Bool
least_less r s = is_lt (least_rows r s)

pub least_ordered : IsStrictWeakOrder least_less
least_ordered = ranks_by least_rows_total (λ (r : RowDatum). r)
