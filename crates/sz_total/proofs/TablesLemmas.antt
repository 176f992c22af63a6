-- Laws of the rows of tables.
use Rattle.std.proofs.Common.{◌≡◌, ℕ, Bool, true, false, cond, true≢false, List, [], ◌∷◌, map, refl, sym, ap, subst}
use Rattle.std.proofs.Common.{Ordering, Less, Equal, Greater, is_eq, Contains, IsPermutation}
use Rattle.std.specs.Prelude.{nat_eq}
use Rattle.std.specs.List.{filter, dedup}
use Rattle.std.specs.List.Sorted.{IsStrictlySortedBy}
use Rattle.std.specs.Cmp.{IsTotalOrder}
use Rattle.std.specs.Cmp.Lexicographic.{lists_total}
use Rattle.std.specs.Ordering.{ordering_then, eq_by_cmp}
use Rattle.std.proofs.lemmas.List.Sorted.{IsPermutation-map, IsPermutation-cons, IsPermutation-trans, IsPermutation-refl, IsPermutation-middle}
use Rattle.sz_types.specs.Tables.{Declaration}
use Rattle.sz_value.specs.Data.{Datum}
use Rattle.sz_value.specs.Order.{compare}
use Rattle.sz_value.specs.Total.{compare_total, compare_ties}
use Rattle.sz_tabs.specs.Data.{EmitDatum}
use Rattle.sz_tabs.specs.Rows.{compare_indexes, went_to, brought_by, brought_to}
use Rattle.sz_tabs.specs.Sorting.{distinct}
use Rattle.sz_tabs.proofs.ForCallers.{in_any_order, distinct_rises, distinct_has, distinct_has_no_other, sorted_in_any_order, rows_in_any_order}
use Rattle.sz_total.specs.Tables.{indexes_to, rows_under}
use Rattle.sz_total.specs.Laws.{indexes_shown, ShowsItsIndexes, ForgetsOrder}

pub indexes_total : IsTotalOrder compare_indexes
indexes_total = lists_total compare_total

-- index lists that tie are the same
pub indexes_tie : (xs ys : List Datum) → compare_indexes xs ys ≡ Equal → xs ≡ ys
indexes_tie [] [] tied = refl
indexes_tie [] (y ∷ ys) tied = absurd (true≢false (sym (ap is_eq tied)))
indexes_tie (x ∷ xs) [] tied = absurd (true≢false (sym (ap is_eq tied)))
indexes_tie (x ∷ xs) (y ∷ ys) tied = by_found (compare x y) refl tied (indexes_tie xs ys)
  where
    by_found : (found : Ordering) → compare x y ≡ found → ordering_then found (compare_indexes xs ys) ≡ Equal
        → (compare_indexes xs ys ≡ Equal → xs ≡ ys) → x ∷ xs ≡ y ∷ ys
    by_found Less is tied later = absurd (true≢false (sym (ap is_eq tied)))
    by_found Equal is tied later = λ i. compare_ties x y is i ∷ later tied i
    by_found Greater is tied later = absurd (true≢false (sym (ap is_eq tied)))

-- the index lists of the rows are those that the rows were made for
shown_again : (table : ℕ) (declaration : Declaration) (emits : List EmitDatum) (lists : List (List Datum))
    → indexes_shown (map (rows_under table declaration emits) lists) ≡ lists
shown_again table declaration emits [] = refl
shown_again table declaration emits (l ∷ ls) = ap (λ rest. l ∷ rest) (shown_again table declaration emits ls)

pub indexes_are_shown : (table : ℕ) (declaration : Declaration) (emits : List EmitDatum)
    → ShowsItsIndexes table declaration emits
indexes_are_shown table declaration emits =
    let lists = indexes_to table emits in
    let again = sym (shown_again table declaration emits (distinct compare_indexes lists)) in
    record {
      rises = subst (IsStrictlySortedBy compare_indexes) again (distinct_rises indexes_total indexes_tie lists);
      has_each = λ indexes there.
          subst (λ l. Contains l indexes) again (distinct_has indexes_total indexes_tie lists indexes there);
      has_no_other = λ indexes there. distinct_has_no_other indexes_total indexes_tie lists indexes
          (subst (λ l. Contains l indexes) (sym again) there);
    }

-- what passes a test of lists that differ in their order differs in its order
module _ {X : Type 0} (test : X → Bool) where
  one_more : (x : X) (xs ys : List X) → IsPermutation (filter test xs) (filter test ys)
      → IsPermutation (filter test (x ∷ xs)) (filter test (x ∷ ys))
  one_more x xs ys moved = by_test (test x)
    where
      by_test : (b : Bool) → IsPermutation (cond b (x ∷ filter test xs) (filter test xs))
          (cond b (x ∷ filter test ys) (filter test ys))
      by_test true = IsPermutation-cons x (filter test xs) (filter test ys) moved
      by_test false = moved

  either_first : (x y : X) (xs : List X) → IsPermutation (filter test (x ∷ y ∷ xs)) (filter test (y ∷ x ∷ xs))
  either_first x y xs = by_tests (test x) (test y)
    where
      passed : List X
      passed = filter test xs

      by_tests : (b c : Bool)
          → IsPermutation (cond b (x ∷ cond c (y ∷ passed) passed) (cond c (y ∷ passed) passed))
          (cond c (y ∷ cond b (x ∷ passed) passed) (cond b (x ∷ passed) passed))
      by_tests true true = IsPermutation-middle (x ∷ []) y passed
      by_tests true false = IsPermutation-refl (x ∷ passed)
      by_tests false true = IsPermutation-refl (y ∷ passed)
      by_tests false false = IsPermutation-refl passed

  pub passed_in_any_order : (xs ys : List X) → IsPermutation xs ys → IsPermutation (filter test xs) (filter test ys)
  passed_in_any_order =
      in_any_order (λ xs ys. IsPermutation (filter test xs) (filter test ys))
      (λ xs. IsPermutation-refl (filter test xs)) one_more either_first
      (λ xs ys zs first second. IsPermutation-trans (filter test xs) (filter test ys) (filter test zs) first second)

brought_in_any_order : (table : ℕ) (indexes : List Datum) (first second : List EmitDatum) → IsPermutation first second
    → IsPermutation (brought_to table indexes first) (brought_to table indexes second)
brought_in_any_order table indexes first second moved =
    IsPermutation-map brought_by (filter (went_to table indexes) first) (filter (went_to table indexes) second)
    (passed_in_any_order (went_to table indexes) first second moved)

under_in_any_order : (table : ℕ) (declaration : Declaration) (first second : List EmitDatum)
    → IsPermutation first second → (indexes : List Datum)
    → rows_under table declaration first indexes ≡ rows_under table declaration second indexes
under_in_any_order table declaration first second moved indexes =
    ap (λ rows. record { indexes = indexes; rows = rows })
    (rows_in_any_order declaration (brought_to table indexes first) (brought_to table indexes second)
    (brought_in_any_order table indexes first second moved))

pub tables_in_any_order : ForgetsOrder
tables_in_any_order table declaration first second moved =
    let went : EmitDatum → Bool = λ (e : EmitDatum). nat_eq e.table table in
    let lists : IsPermutation (indexes_to table first) (indexes_to table second) =
    IsPermutation-map (λ (e : EmitDatum). e.indexes) (filter went first) (filter went second)
    (passed_in_any_order went first second moved) in
    let same : distinct compare_indexes (indexes_to table first) ≡ distinct compare_indexes (indexes_to table second) =
    ap (dedup (eq_by_cmp compare_indexes))
    (sorted_in_any_order indexes_total indexes_tie (indexes_to table first) (indexes_to table second) lists) in
    (λ i. map (λ indexes. under_in_any_order table declaration first second moved indexes i) (same i))
