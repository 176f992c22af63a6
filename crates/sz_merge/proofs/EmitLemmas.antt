-- Rows of emits, joined, are the rows of all the emits.
use Rattle.std.proofs.Common.{◌≡◌, ◌∙◌, ℕ, ◌≤◌, nat_lt, Bool, true, false, cond, None, List, [], ◌∷◌, ◌++◌, length, map, take, refl, sym, ap, arith, append-nil, Ordering}
use Rattle.std.specs.Cmp.{IsTotalOrder}
use Rattle.std.proofs.lemmas.Bool.{and_parts, cond_both, leb-true}
use Rattle.std.proofs.lemmas.List.{length-map, map-append}
use Rattle.sz_types.specs.Tables.{Declaration}
use Rattle.sz_types.specs.declared.table.TableKind.{TableKind}
use Rattle.sz_types.specs.declared.table.TableKind.TheVariants.{Sum, Maximum, Minimum, Set, Collection}
use Rattle.sz_value.specs.Data.{Datum}
use Rattle.sz_value.specs.Order.{compare}
use Rattle.sz_value.specs.Total.{compare_total, compare_ties}
use Rattle.sz_core.specs.WellFormed.{is_between, kind_allows, is_allowed}
use Rattle.sz_tabs.specs.Data.{sums, Weighted, RowDatum}
use Rattle.sz_tabs.specs.Sorting.{sorted, distinct}
use Rattle.sz_tabs.specs.Rows.{values_of, least_first, greatest_first, value_row, weighted_row, sum_rows, set_rows, rows_by, rows_of}
use Rattle.sz_tabs.proofs.ForCallers.{least_total, least_ties, greatest_total, greatest_ties, sums_of_both}
use Rattle.sz_save_format.specs.Entries.{overflows}
use Rattle.sz_save.specs.Joined.{values_shown, least_rows, greatest_rows, joined_sums, joined_sets, joined_rows}
use Rattle.sz_save.proofs.RowLemmas.{some_taken, sorted_long, some_distinct}
use Rattle.sz_merge.specs.JoiningLaws.{JoinsRows}
use Rattle.sz_merge.proofs.EitherLemmas.{rows_of_values}
use Rattle.sz_merge.proofs.SortedLemmas.{first_of_firsts, sorted_of_sorted, distinct_either, distinct_of_distinct}
use Rattle.sz_merge.proofs.JoinedGroupLemmas.{shown_again, none_overflows, full, full_stays, set_further}

sums_join : (vs ws : List Datum) → joined_sums (sum_rows vs) (sum_rows ws) ≡ sum_rows (vs ++ ws)
sums_join [] ws = refl
sums_join (v ∷ vs) [] = ap sum_rows (sym (append-nil (v ∷ vs)))
sums_join (v ∷ vs) (w ∷ ws) =
    ap (λ ns. record { shown = sums ns; weight = None } ∷ []) (sym (sums_of_both (v ∷ vs) (w ∷ ws)))

sets_join : (limit : ℕ) (vs ws : List Datum)
    → joined_sets limit (set_rows limit (distinct compare vs)) (set_rows limit (distinct compare ws))
    ≡ set_rows limit (distinct compare (vs ++ ws))
sets_join limit vs ws =
    set_further limit vs (set_rows limit (distinct compare ws))
    ∙ by_test (nat_lt limit (length (distinct compare ws))) refl
  where
    of_both : List Datum → List RowDatum
    of_both later = set_rows limit (distinct compare (vs ++ later))

    by_test : (b : Bool) → nat_lt limit (length (distinct compare ws)) ≡ b
        → cond (overflows (cond b (full limit) (map value_row (distinct compare ws)))) (full limit)
        (set_rows limit
        (distinct compare (vs ++ values_shown (cond b (full limit) (map value_row (distinct compare ws))))))
        ≡ set_rows limit (distinct compare (vs ++ ws))
    by_test true is = sym (full_stays limit ws vs is)
        ∙ ap (set_rows limit) (distinct_either compare_total compare_ties ws vs)
    by_test false is =
        let later = distinct compare ws in
        ap (λ b. cond b (full limit) (of_both (values_shown (map value_row later)))) (none_overflows later)
        ∙ ap of_both (shown_again later) ∙ ap (set_rows limit) (distinct_of_distinct compare_total compare_ties vs ws)

collections_join : (vs ws : List Datum)
    → map value_row (sorted compare
    (values_shown (map value_row (sorted compare vs)) ++ values_shown (map value_row (sorted compare ws))))
    ≡ map value_row (sorted compare (vs ++ ws))
collections_join vs ws =
    (λ i. map value_row (sorted compare (shown_again (sorted compare vs) i ++ shown_again (sorted compare ws) i)))
    ∙ ap (map value_row) (sorted_of_sorted compare_total compare_ties vs ws)

values_of_both : (front later : List Weighted) → values_of front ++ values_of later ≡ values_of (front ++ later)
values_of_both front later = sym (map-append (λ (w : Weighted). w.value) front later)

joined_by : (kind : TableKind) (limit : ℕ) (front later : List Weighted)
    → joined_rows kind limit (rows_by kind limit front) (rows_by kind limit later) ≡ rows_by kind limit (front ++ later)
joined_by Sum limit front later = sums_join (values_of front) (values_of later)
    ∙ ap sum_rows (values_of_both front later)
joined_by Maximum limit front later =
    rows_of_values limit greatest_rows greatest_total greatest_ties (take limit (sorted greatest_first front))
    (take limit (sorted greatest_first later))
    ∙ ap (map weighted_row) (first_of_firsts greatest_total greatest_ties limit front later)
joined_by Minimum limit front later =
    rows_of_values limit least_rows least_total least_ties (take limit (sorted least_first front))
    (take limit (sorted least_first later))
    ∙ ap (map weighted_row) (first_of_firsts least_total least_ties limit front later)
joined_by Set limit front later =
    sets_join limit (values_of front) (values_of later)
    ∙ ap (λ l. set_rows limit (distinct compare l)) (values_of_both front later)
joined_by Collection limit front later =
    collections_join (values_of front) (values_of later)
    ∙ ap (λ l. map value_row (sorted compare l)) (values_of_both front later)

pub rows_join : JoinsRows
rows_join table front later = joined_by table.kind table.limit front later

-- ---- something that is brought has rows

module _ (table : Declaration) where
  at_least : (least most n : ℕ) → is_between least most n ≡ true → least ≤ n
  at_least least most n h = leb-true least n (and_parts _ _ h).0

  some_first : (order : Weighted → Weighted → Ordering) → IsTotalOrder order → (brought : List Weighted)
      → 1 ≤ table.limit → 1 ≤ length brought → 1 ≤ length (map weighted_row (take table.limit (sorted order brought)))
  some_first order total brought room some =
      let first = take table.limit (sorted order brought) in
      let long = length-map first weighted_row in
      let same = sorted_long total brought in
      let there = some_taken table.limit (sorted order brought) room (omega (arith, same, some)) in
      omega (arith, long, there)

  some_in_set : (vs : List Datum) → 1 ≤ length vs → 1 ≤ length (set_rows table.limit (distinct compare vs))
  some_in_set vs some =
      let values = distinct compare vs in
      cond_both (nat_lt table.limit (length values)) (full table.limit) (map value_row values)
      (λ rows. 1 ≤ length rows) (λ _. omega arith) (λ _. let there = some_distinct compare_total vs some in
      let long = length-map values value_row in omega (arith, there, long))

  some_rows_by : (kind : TableKind) → kind_allows kind table ≡ true → (brought : List Weighted) → 1 ≤ length brought
      → 1 ≤ length (rows_by kind table.limit brought)
  some_rows_by Sum allowed [] some = absurd (omega (arith, some))
  some_rows_by Sum allowed (w ∷ ws) some = omega arith
  some_rows_by Maximum allowed brought some =
      some_first greatest_first greatest_total brought (at_least 1 10000 table.limit (and_parts _ _ allowed).0) some
  some_rows_by Minimum allowed brought some =
      some_first least_first least_total brought (at_least 1 10000 table.limit (and_parts _ _ allowed).0) some
  some_rows_by Set allowed brought some =
      let long = length-map brought (λ (w : Weighted). w.value) in
      some_in_set (values_of brought) (omega (arith, long, some))
  some_rows_by Collection allowed brought some =
      let long = length-map brought (λ (w : Weighted). w.value) in
      let same = sorted_long compare_total (values_of brought) in
      let rows = length-map (sorted compare (values_of brought)) value_row in
      omega (arith, long, same, rows, some)

  pub some_rows_of : is_allowed table ≡ true → (brought : List Weighted) → 1 ≤ length brought
      → 1 ≤ length (rows_of table brought)
  some_rows_of allowed brought some = some_rows_by table.kind allowed brought some
