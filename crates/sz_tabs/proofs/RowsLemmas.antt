-- Laws of the rows of emits.
use Rattle.std.proofs.Common.{◌≡◌, ◌∙◌, ℕ, zero, suc, ◌+ℤ◌, ℤ, Option, Some, None, List, [], ◌∷◌, ◌++◌, map, take, refl, sym, ap, arith, true, false, cond, Ordering, Equal, is_eq, int_cmp, true≢false, le-ltb, IsPermutation}
use Rattle.std.specs.Option.{option_cmp}
use Rattle.std.specs.Cmp.{IsTotalOrder, int_cmp_total, then_total, on_total, back_total, signed_Decides}
use Rattle.std.specs.Cmp.Lexicographic.{options_total}
use Rattle.std.proofs.lemmas.Int.{ints}
use Rattle.std.proofs.lemmas.List.{map-append, append-nil}
use Rattle.std.proofs.lemmas.List.Elements.{filter-append}
use Rattle.std.proofs.lemmas.List.Sorted.{IsPermutation-map, length_permutation}
use Rattle.sz_types.specs.Tables.{Declaration}
use Rattle.sz_types.specs.declared.table.TableKind.{TableKind}
use Rattle.sz_types.specs.declared.table.TableKind.TheVariants.{Sum, Maximum, Minimum, Set, Collection}
use Rattle.sz_value.specs.Data.{Datum}
use Rattle.sz_value.specs.Order.{compare}
use Rattle.sz_value.specs.Total.{compare_total, compare_ties, both_equal}
use Rattle.sz_tabs.specs.Data.{EmitDatum, Weighted, sums, RowDatum}
use Rattle.sz_tabs.specs.Sorting.{sorted, distinct}
use Rattle.sz_tabs.specs.Rows.{went_to, brought_by, brought_to, values_of, components_of, plus, sums_of, least_first, greatest_first, value_row, weighted_row, sum_rows, set_rows, rows_by, rows_of}
use Rattle.sz_tabs.specs.Laws.{Sorts, IsSetOf, ForgetsOrder}
use Rattle.sz_tabs.proofs.PermutationLemmas.{in_any_order}
use Rattle.sz_tabs.proofs.SortingLemmas.{is_sorted, sorted_ascends, sorted_is_permutation, sorted_in_any_order, distinct_rises, distinct_has, distinct_has_no_other}

pub least_total : IsTotalOrder least_first
least_total = then_total (on_total (λ (w : Weighted). w.weight) (options_total int_cmp_total))
    (on_total (λ (w : Weighted). w.value) compare_total)

pub greatest_total : IsTotalOrder greatest_first
greatest_total =
    then_total (on_total (λ (w : Weighted). w.weight) (back_total (options_total int_cmp_total)))
    (on_total (λ (w : Weighted). w.value) compare_total)

weights_tie : (v w : Option ℤ) → option_cmp int_cmp v w ≡ Equal → v ≡ w
weights_tie None None tied = refl
weights_tie None (Some n) tied = absurd (true≢false (sym (ap is_eq tied)))
weights_tie (Some m) None tied = absurd (true≢false (sym (ap is_eq tied)))
weights_tie (Some m) (Some n) tied = ap Some ((signed_Decides m n).0 (ap is_eq tied))

pub least_ties : (v w : Weighted) → least_first v w ≡ Equal → v ≡ w
least_ties v w tied =
    let equal = both_equal (option_cmp int_cmp v.weight w.weight) (compare v.value w.value) tied in
    λ i. record { value = compare_ties v.value w.value equal.1 i; weight = weights_tie v.weight w.weight equal.0 i }

pub greatest_ties : (v w : Weighted) → greatest_first v w ≡ Equal → v ≡ w
greatest_ties v w tied =
    let equal = both_equal (option_cmp int_cmp w.weight v.weight) (compare v.value w.value) tied in
    λ i. record {
      value = compare_ties v.value w.value equal.1 i;
      weight = sym (weights_tie w.weight v.weight equal.0) i;
    }

sorts : {X : Type 0} {cmp : X → X → Ordering} → IsTotalOrder cmp → (xs : List X) → Sorts cmp xs
sorts {cmp = cmp} total xs = record {
  in_order = is_sorted total (sorted cmp xs) (sorted_ascends total xs);
  same_elements = sorted_is_permutation total xs;
}

pub values_sort : (values : List Datum) → Sorts compare values
values_sort = sorts compare_total

pub least_sort : (brought : List Weighted) → Sorts least_first brought
least_sort = sorts least_total

pub greatest_sort : (brought : List Weighted) → Sorts greatest_first brought
greatest_sort = sorts greatest_total

pub distinct_are_a_set : (values : List Datum) → IsSetOf values (distinct compare values)
distinct_are_a_set values = record {
  rises = distinct_rises compare_total compare_ties values;
  has_each = distinct_has compare_total compare_ties values;
  has_no_other = distinct_has_no_other compare_total compare_ties values;
}

taken_of_none : (limit : ℕ) → take {A = Weighted} limit [] ≡ []
taken_of_none zero = refl
taken_of_none (suc n) = refl

none_of : (kind : TableKind) (limit : ℕ) → rows_by kind limit [] ≡ []
none_of Sum limit = refl
none_of Maximum limit = ap (map weighted_row) (taken_of_none limit)
none_of Minimum limit = ap (map weighted_row) (taken_of_none limit)
none_of Set limit = rw (le-ltb limit 0 (omega arith))
none_of Collection limit = refl

pub no_rows : (table : Declaration) → rows_of table [] ≡ []
no_rows table = none_of table.kind table.limit

pub brought_by_both : (table : ℕ) (indexes : List Datum) (front later : List EmitDatum)
    → brought_to table indexes (front ++ later) ≡ brought_to table indexes front ++ brought_to table indexes later
brought_by_both table indexes front later =
    ap (map brought_by) (filter-append (went_to table indexes) front later) ∙ map-append brought_by _ _

-- one emit more, to the table under the index list, and to another
module _ (table : ℕ) (indexes : List Datum) (emits : List EmitDatum) (emit : EmitDatum) where
  pub brought_there : went_to table indexes emit ≡ true
      → brought_to table indexes (emits ++ emit ∷ []) ≡ brought_to table indexes emits ++ brought_by emit ∷ []
  brought_there went =
      brought_by_both table indexes emits (emit ∷ [])
      ∙ ap (λ b. brought_to table indexes emits ++ map brought_by (cond b (emit ∷ []) [])) went

  pub brought_elsewhere : went_to table indexes emit ≡ false
      → brought_to table indexes (emits ++ emit ∷ []) ≡ brought_to table indexes emits
  brought_elsewhere went =
      brought_by_both table indexes emits (emit ∷ [])
      ∙ ap (λ b. brought_to table indexes emits ++ map brought_by (cond b (emit ∷ []) [])) went ∙ append-nil _

pub plus_comm : (ms ns : List ℤ) → plus ms ns ≡ plus ns ms
plus_comm [] [] = refl
plus_comm [] (n ∷ ns) = refl
plus_comm (m ∷ ms) [] = refl
plus_comm (m ∷ ms) (n ∷ ns) = let first : m +ℤ n ≡ n +ℤ m = omega (arith, ints) in λ i. first i ∷ plus_comm ms ns i

pub plus_assoc : (ms ns ps : List ℤ) → plus ms (plus ns ps) ≡ plus (plus ms ns) ps
plus_assoc [] ns ps = refl
plus_assoc (m ∷ ms) [] ps = refl
plus_assoc (m ∷ ms) (n ∷ ns) [] = refl
plus_assoc (m ∷ ms) (n ∷ ns) (p ∷ ps) =
    let first : m +ℤ (n +ℤ p) ≡ (m +ℤ n) +ℤ p = omega (arith, ints) in λ i. first i ∷ plus_assoc ms ns ps i

pub sums_in_any_order : (vs ws : List Datum) → IsPermutation vs ws → sums_of vs ≡ sums_of ws
sums_in_any_order =
    in_any_order (λ vs ws. sums_of vs ≡ sums_of ws) (λ vs. refl) (λ v vs ws alike. ap (plus (components_of v)) alike)
    (λ v w vs. plus_assoc (components_of v) (components_of w) (sums_of vs)
    ∙ ap (λ ns. plus ns (sums_of vs)) (plus_comm (components_of v) (components_of w))
    ∙ sym (plus_assoc (components_of w) (components_of v) (sums_of vs)))
    (λ us vs ws first second. first ∙ second)

sum_rows_in_any_order : (vs ws : List Datum) → IsPermutation vs ws → sum_rows vs ≡ sum_rows ws
sum_rows_in_any_order [] [] moved = refl
sum_rows_in_any_order [] (w ∷ ws) moved = absurd (omega (arith, length_permutation [] (w ∷ ws) moved))
sum_rows_in_any_order (v ∷ vs) [] moved = absurd (omega (arith, length_permutation (v ∷ vs) [] moved))
sum_rows_in_any_order (v ∷ vs) (w ∷ ws) moved =
    let row : List ℤ → RowDatum = λ ns. record { shown = sums ns; weight = None } in
    ap (λ ns. row ns ∷ []) (sums_in_any_order (v ∷ vs) (w ∷ ws) moved)

rows_by_in_any_order : (kind : TableKind) (limit : ℕ) (first second : List Weighted) → IsPermutation first second
    → rows_by kind limit first ≡ rows_by kind limit second
rows_by_in_any_order Sum limit first second moved =
    sum_rows_in_any_order (values_of first) (values_of second)
    (IsPermutation-map (λ (w : Weighted). w.value) first second moved)
rows_by_in_any_order Maximum limit first second moved =
    ap (λ l. map weighted_row (take limit l)) (sorted_in_any_order greatest_total greatest_ties first second moved)
rows_by_in_any_order Minimum limit first second moved =
    ap (λ l. map weighted_row (take limit l)) (sorted_in_any_order least_total least_ties first second moved)
rows_by_in_any_order Set limit first second moved =
    ap (λ l. set_rows limit (Rattle.std.specs.List.dedup (Rattle.std.specs.Ordering.eq_by_cmp compare) l))
    (sorted_in_any_order compare_total compare_ties (values_of first) (values_of second)
    (IsPermutation-map (λ (w : Weighted). w.value) first second moved))
rows_by_in_any_order Collection limit first second moved =
    ap (map value_row)
    (sorted_in_any_order compare_total compare_ties (values_of first) (values_of second)
    (IsPermutation-map (λ (w : Weighted). w.value) first second moved))

pub rows_in_any_order : ForgetsOrder
rows_in_any_order table first second moved = rows_by_in_any_order table.kind table.limit first second moved
