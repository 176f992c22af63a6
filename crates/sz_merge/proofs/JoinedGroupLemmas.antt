-- The rows of three sides, whichever two are joined first.
use Rattle.std.proofs.Common.{◌≡◌, ◌∙◌, ℕ, nat_lt, Bool, true, false, ◌||◌, cond, None, List, [], ◌∷◌, ◌++◌, length, map, take, refl}
use Rattle.std.proofs.Common.{sym, ap, arith, append_assoc, lt-ltb, ltb-true}
use Rattle.std.proofs.Common.{Ordering, Equal}
use Rattle.std.specs.Cmp.{IsTotalOrder}
use Rattle.std.specs.List.{dedup}
use Rattle.std.specs.Ordering.{on, eq_by_cmp}
use Rattle.sz_types.specs.declared.table.TableKind.{TableKind}
use Rattle.sz_types.specs.declared.table.TableKind.TheVariants.{Sum, Maximum, Minimum, Set, Collection}
use Rattle.sz_value.specs.Data.{Datum}
use Rattle.sz_value.specs.Order.{compare}
use Rattle.sz_value.specs.Total.{compare_total, compare_ties}
use Rattle.sz_tabs.specs.Data.{sums, Weighted, RowDatum}
use Rattle.sz_tabs.specs.Sorting.{sorted, distinct}
use Rattle.sz_tabs.specs.Rows.{value_row, weighted_row, overflow_row, set_rows}
use Rattle.sz_tabs.proofs.ForCallers.{least_total, least_ties, greatest_total, greatest_ties, plus_assoc, all_entered}
use Rattle.sz_tabs.proofs.ForCallers.{distinct_of_either}
use Rattle.sz_save_format.specs.Entries.{overflows}
use Rattle.sz_save.specs.Joined.{values_shown, sums_in, least_rows, greatest_rows, joined_sums, joined_sets, joined_rows}
use Rattle.sz_merge.proofs.EitherLemmas.{AreOfValues, CanBeOrdered, sorted_either, rows_of_values, sets_either}
use Rattle.sz_merge.proofs.SortedLemmas.{all_longer, first_grouped, sorted_grouped, distinct_further}

module _ (limit : ℕ) (order : RowDatum → RowDatum → Ordering) (total : IsTotalOrder (on weighted_row order))
    (same : (v w : Weighted) → on weighted_row order v w ≡ Equal → v ≡ w) where
  of_both : (vs ws : List Weighted) → take limit (sorted order (map weighted_row vs ++ map weighted_row ws))
      ≡ map weighted_row (take limit (sorted (on weighted_row order) (vs ++ ws)))
  of_both = rows_of_values limit order total same

  of_three : (us vs ws : List Weighted)
      → take limit
      (sorted order (take limit (sorted order (map weighted_row us ++ map weighted_row vs)) ++ map weighted_row ws))
      ≡ take limit
      (sorted order (map weighted_row us ++ take limit (sorted order (map weighted_row vs ++ map weighted_row ws))))
  of_three us vs ws =
      let front = take limit (sorted (on weighted_row order) (us ++ vs)) in
      let back = take limit (sorted (on weighted_row order) (vs ++ ws)) in
      ap (λ l. take limit (sorted order (l ++ map weighted_row ws))) (of_both us vs) ∙ of_both front ws
      ∙ ap (map weighted_row) (first_grouped total same limit us vs ws)
      ∙ sym (of_both us back) ∙ ap (λ l. take limit (sorted order (map weighted_row us ++ l))) (sym (of_both vs ws))

  ordered_grouped : (xs ys zs : List RowDatum) → AreOfValues xs → AreOfValues ys → AreOfValues zs
      → take limit (sorted order (take limit (sorted order (xs ++ ys)) ++ zs))
      ≡ take limit (sorted order (xs ++ take limit (sorted order (ys ++ zs))))
  ordered_grouped xs ys zs f g h =
      (λ i. take limit (sorted order (take limit (sorted order (f.1 i ++ g.1 i)) ++ h.1 i))) ∙ of_three f.0 g.0 h.0
      ∙ (λ i. take limit (sorted order (sym f.1 i ++ take limit (sorted order (sym g.1 i ++ sym h.1 i)))))

sums_grouped : (xs ys zs : List RowDatum) → joined_sums (joined_sums xs ys) zs ≡ joined_sums xs (joined_sums ys zs)
sums_grouped [] ys zs = refl
sums_grouped (x ∷ xs) [] zs = refl
sums_grouped (x ∷ xs) (y ∷ ys) [] = refl
sums_grouped (x ∷ xs) (y ∷ ys) (z ∷ zs) =
    ap (λ ns. record { shown = sums ns; weight = None } ∷ [])
    (sym (plus_assoc (sums_in x.shown) (sums_in y.shown) (sums_in z.shown)))

pub shown_again : (values : List Datum) → values_shown (map value_row values) ≡ values
shown_again [] = refl
shown_again (d ∷ ds) = ap (λ l. d ∷ l) (shown_again ds)

pub none_overflows : (values : List Datum) → overflows (map value_row values) ≡ false
none_overflows [] = refl
none_overflows (d ∷ ds) = refl

module _ (limit : ℕ) where
  abbrev pub full : List RowDatum
  full = overflow_row ∷ []

  -- the rows of the distinct values of both
  abbrev pub set_of : List Datum → List RowDatum → List RowDatum
  set_of values rows = set_rows limit (distinct compare (values ++ values_shown rows))

  -- a set that is full stays full
  pub full_stays : (values more : List Datum) → nat_lt limit (length (distinct compare values)) ≡ true
      → set_rows limit (distinct compare (values ++ more)) ≡ full
  full_stays values more is =
      let above = ltb-true limit (length (distinct compare values)) is in
      let entered = all_entered compare more (distinct compare values) in
      let still =
      lt-ltb limit (length entered) (omega (arith, all_longer compare more (distinct compare values), above)) in
      ap (set_rows limit) (distinct_of_either compare_total compare_ties values more)
      ∙ ap (λ b. cond b full (map value_row entered)) still

  -- the rows of a set and further rows
  pub set_further : (values : List Datum) (rows : List RowDatum)
      → joined_sets limit (set_rows limit (distinct compare values)) rows
      ≡ cond (overflows rows) full (set_of values rows)
  set_further values rows = by_test (nat_lt limit (length (distinct compare values))) refl
    where
      once_full : (b : Bool) → set_of values rows ≡ full → full ≡ cond b full (set_of values rows)
      once_full true is = refl
      once_full false is = sym is

      by_test : (b : Bool) → nat_lt limit (length (distinct compare values)) ≡ b
          → joined_sets limit (cond b full (map value_row (distinct compare values))) rows
          ≡ cond (overflows rows) full (set_of values rows)
      by_test true is = once_full (overflows rows) (full_stays values (values_shown rows) is)
      by_test false is =
          let kept = distinct compare values in
          ap (λ b. cond (b || overflows rows) full (set_of (values_shown (map value_row kept)) rows))
          (none_overflows kept) ∙ ap (λ l. cond (overflows rows) full (set_of l rows)) (shown_again kept)
          ∙ ap (λ l. cond (overflows rows) full (set_rows limit l))
          (distinct_further compare_total compare_ties values (values_shown rows))

  -- the rows of three sets
  three_sets : (xs ys zs : List RowDatum) → joined_sets limit (joined_sets limit xs ys) zs
      ≡ cond ((overflows xs || overflows ys) || overflows zs) full (set_of (values_shown xs ++ values_shown ys) zs)
  three_sets xs ys zs = by_test (overflows xs || overflows ys)
    where
      by_test : (b : Bool) → joined_sets limit
          (cond b full (set_rows limit (distinct compare (values_shown xs ++ values_shown ys)))) zs
          ≡ cond (b || overflows zs) full (set_of (values_shown xs ++ values_shown ys) zs)
      by_test true = refl
      by_test false = set_further (values_shown xs ++ values_shown ys) zs

  any_full : (p q r : Bool) → ((p || q) || r) ≡ ((q || r) || p)
  any_full true true true = refl
  any_full true true false = refl
  any_full true false true = refl
  any_full true false false = refl
  any_full false true true = refl
  any_full false true false = refl
  any_full false false true = refl
  any_full false false false = refl

  sets_grouped : (xs ys zs : List RowDatum)
      → joined_sets limit (joined_sets limit xs ys) zs ≡ joined_sets limit xs (joined_sets limit ys zs)
  sets_grouped xs ys zs =
      let us = values_shown xs in
      let vs = values_shown ys in
      let ws = values_shown zs in
      let turned : distinct compare ((us ++ vs) ++ ws) ≡ distinct compare ((vs ++ ws) ++ us) =
      ap (distinct compare) (append_assoc us vs ws)
      ∙ ap (dedup (eq_by_cmp compare)) (sorted_either compare_total compare_ties us (vs ++ ws)) in
      three_sets xs ys zs
      ∙ (λ i. cond (any_full (overflows xs) (overflows ys) (overflows zs) i) full (set_rows limit (turned i)))
      ∙ sym (three_sets ys zs xs) ∙ sets_either limit (joined_sets limit ys zs) xs

collections_grouped : (xs ys zs : List Datum)
    → map value_row (sorted compare (values_shown (map value_row (sorted compare (xs ++ ys))) ++ zs))
    ≡ map value_row (sorted compare (xs ++ values_shown (map value_row (sorted compare (ys ++ zs)))))
collections_grouped xs ys zs =
    ap (λ l. map value_row (sorted compare (l ++ zs))) (shown_again (sorted compare (xs ++ ys)))
    ∙ ap (map value_row) (sorted_grouped compare_total compare_ties xs ys zs)
    ∙ ap (λ l. map value_row (sorted compare (xs ++ l))) (sym (shown_again (sorted compare (ys ++ zs))))

-- either two of three sides may be joined first
pub rows_grouped : (kind : TableKind) (limit : ℕ) (xs ys zs : List RowDatum) → CanBeOrdered kind xs
    → CanBeOrdered kind ys → CanBeOrdered kind zs → joined_rows kind limit (joined_rows kind limit xs ys) zs
    ≡ joined_rows kind limit xs (joined_rows kind limit ys zs)
rows_grouped Sum limit xs ys zs f g h = sums_grouped xs ys zs
rows_grouped Maximum limit xs ys zs f g h =
    ordered_grouped limit greatest_rows greatest_total greatest_ties xs ys zs f g h
rows_grouped Minimum limit xs ys zs f g h = ordered_grouped limit least_rows least_total least_ties xs ys zs f g h
rows_grouped Set limit xs ys zs f g h = sets_grouped limit xs ys zs
rows_grouped Collection limit xs ys zs f g h = collections_grouped (values_shown xs) (values_shown ys) (values_shown zs)
