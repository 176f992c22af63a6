-- The rows of both sides, whichever side comes first.
use Rattle.std.proofs.Common.{◌≡◌, ◌∙◌, ℕ, Bool, true, false, ◌||◌, ℤ, Option, None, List, [], ◌∷◌, ◌++◌, map, take, cond, refl, sym, ap}
use Rattle.std.proofs.Common.{Ordering, Equal}
use Rattle.std.specs.Cmp.{IsTotalOrder}
use Rattle.std.specs.List.{AllByRecursion, dedup, take-map}
use Rattle.std.specs.Ordering.{on, eq_by_cmp}
use Rattle.std.proofs.lemmas.List.{map-append}
use Rattle.std.proofs.lemmas.List.Sorted.{IsPermutation-append_comm}
use Rattle.sz_types.specs.Data.{Shape}
use Rattle.sz_types.specs.declared.table.TableKind.{TableKind}
use Rattle.sz_types.specs.declared.table.TableKind.TheVariants.{Sum, Maximum, Minimum, Set, Collection}
use Rattle.sz_value.specs.Order.{compare}
use Rattle.sz_value.specs.Total.{compare_total, compare_ties}
use Rattle.sz_tabs.specs.Data.{Shown, one, sums, overflow, Weighted, RowDatum}
use Rattle.sz_tabs.specs.Sorting.{sorted}
use Rattle.sz_tabs.specs.Rows.{value_row, weighted_row, overflow_row, set_rows}
use Rattle.sz_tabs.proofs.ForCallers.{sorted_in_any_order, sorted_mapped, least_total, least_ties, greatest_total, greatest_ties, plus_comm}
use Rattle.sz_save_format.specs.Entries.{overflows, ShowsSavedValue, IsSavedRow, HaveRows}
use Rattle.sz_save.specs.Joined.{values_shown, sums_in, least_rows, greatest_rows, joined_sums, joined_sets, joined_rows}

-- the rows are those of values with their weights
abbrev pub AreOfValues : List RowDatum → Type 0
AreOfValues rows = (values : List Weighted) × (rows ≡ map weighted_row values)

-- where the order is that of rows, they are those of values
abbrev pub CanBeOrdered : TableKind → List RowDatum → Type 0
CanBeOrdered Sum rows = Unit {0}
CanBeOrdered Maximum rows = AreOfValues rows
CanBeOrdered Minimum rows = AreOfValues rows
CanBeOrdered Set rows = Unit {0}
CanBeOrdered Collection rows = Unit {0}

module _ (ranked : Bool) (element : Shape) where
  of_value : (shown : Shown) (weight : Option ℤ) → ShowsSavedValue element shown
      → (value : Weighted) × (record { shown = shown; weight = weight } ≡ weighted_row value)
  of_value (one d) weight h = (record { value = d; weight = weight }, refl)
  of_value (sums ns) weight h = absurd h
  of_value overflow weight h = absurd h

  of_values : (rows : List RowDatum) → AllByRecursion (IsSavedRow ranked element) rows → AreOfValues rows
  of_values [] h = ([], refl)
  of_values (r ∷ rows) h =
      let first = of_value r.shown r.weight h.0.value in
      let later = of_values rows h.1 in
      (first.0 ∷ later.0, λ i. first.1 i ∷ later.1 i)

-- rows that can be saved can be ordered, and so can none
pub saved_ordered : (kind : TableKind) (bound limit : ℕ) (element : Shape) (rows : List RowDatum)
    → HaveRows kind bound limit element rows → CanBeOrdered kind rows
saved_ordered Sum bound limit element rows h = tt
saved_ordered Maximum bound limit element rows h = of_values true element rows h.each
saved_ordered Minimum bound limit element rows h = of_values true element rows h.each
saved_ordered Set bound limit element rows h = tt
saved_ordered Collection bound limit element rows h = tt

pub none_ordered : (kind : TableKind) → CanBeOrdered kind []
none_ordered Sum = tt
none_ordered Maximum = ([], refl)
none_ordered Minimum = ([], refl)
none_ordered Set = tt
none_ordered Collection = tt

module _ {X : Type 0} {cmp : X → X → Ordering} (total : IsTotalOrder cmp)
    (same : (x y : X) → cmp x y ≡ Equal → x ≡ y) where
  pub sorted_either : (xs ys : List X) → sorted cmp (xs ++ ys) ≡ sorted cmp (ys ++ xs)
  sorted_either xs ys = sorted_in_any_order total same (xs ++ ys) (ys ++ xs) (IsPermutation-append_comm xs ys)

-- the first rows of both sides, in an order of rows that is one of values with their weights
module _ (limit : ℕ) (order : RowDatum → RowDatum → Ordering) (total : IsTotalOrder (on weighted_row order))
    (same : (v w : Weighted) → on weighted_row order v w ≡ Equal → v ≡ w) where
  abbrev pub first_rows : List RowDatum → List RowDatum
  first_rows rows = take limit (sorted order rows)

  abbrev pub first_values : List Weighted → List Weighted
  first_values values = take limit (sorted (on weighted_row order) values)

  pub rows_of_values : (vs ws : List Weighted)
      → first_rows (map weighted_row vs ++ map weighted_row ws) ≡ map weighted_row (first_values (vs ++ ws))
  rows_of_values vs ws =
      ap first_rows (sym (map-append weighted_row vs ws))
      ∙ ap (take limit) (sorted_mapped order weighted_row (vs ++ ws))
      ∙ take-map weighted_row limit (sorted (on weighted_row order) (vs ++ ws))

  pub first_ordered : (rows others : List RowDatum) → AreOfValues rows → AreOfValues others
      → AreOfValues (first_rows (rows ++ others))
  first_ordered rows others g h =
      (first_values (g.0 ++ h.0), (λ i. first_rows (g.1 i ++ h.1 i)) ∙ rows_of_values g.0 h.0)

  pub first_either : (rows others : List RowDatum) → AreOfValues rows → AreOfValues others
      → first_rows (rows ++ others) ≡ first_rows (others ++ rows)
  first_either rows others g h =
      (λ i. first_rows (g.1 i ++ h.1 i)) ∙ rows_of_values g.0 h.0
      ∙ ap (λ l. map weighted_row (take limit l)) (sorted_either total same g.0 h.0)
      ∙ sym (rows_of_values h.0 g.0) ∙ (λ i. first_rows (sym h.1 i ++ sym g.1 i))

sums_either : (rows others : List RowDatum) → joined_sums rows others ≡ joined_sums others rows
sums_either [] [] = refl
sums_either [] (o ∷ others) = refl
sums_either (r ∷ rows) [] = refl
sums_either (r ∷ rows) (o ∷ others) =
    ap (λ ns. record { shown = sums ns; weight = None } ∷ []) (plus_comm (sums_in r.shown) (sums_in o.shown))

either_full : (p q : Bool) → (p || q) ≡ (q || p)
either_full true true = refl
either_full true false = refl
either_full false true = refl
either_full false false = refl

pub sets_either : (limit : ℕ) (rows others : List RowDatum)
    → joined_sets limit rows others ≡ joined_sets limit others rows
sets_either limit rows others =
    λ i. cond (either_full (overflows rows) (overflows others) i) (overflow_row ∷ [])
    (set_rows limit (dedup (eq_by_cmp compare)
    (sorted_either compare_total compare_ties (values_shown rows) (values_shown others) i)))

-- either side may come first
pub rows_either : (kind : TableKind) (limit : ℕ) (rows others : List RowDatum) → CanBeOrdered kind rows
    → CanBeOrdered kind others → joined_rows kind limit rows others ≡ joined_rows kind limit others rows
rows_either Sum limit rows others g h = sums_either rows others
rows_either Maximum limit rows others g h =
    first_either limit greatest_rows greatest_total greatest_ties rows others g h
rows_either Minimum limit rows others g h = first_either limit least_rows least_total least_ties rows others g h
rows_either Set limit rows others g h = sets_either limit rows others
rows_either Collection limit rows others g h =
    ap (map value_row) (sorted_either compare_total compare_ties (values_shown rows) (values_shown others))

-- the rows of both sides can be ordered
pub both_ordered : (kind : TableKind) (limit : ℕ) (rows others : List RowDatum) → CanBeOrdered kind rows
    → CanBeOrdered kind others → CanBeOrdered kind (joined_rows kind limit rows others)
both_ordered Sum limit rows others g h = tt
both_ordered Maximum limit rows others g h =
    first_ordered limit greatest_rows greatest_total greatest_ties rows others g h
both_ordered Minimum limit rows others g h = first_ordered limit least_rows least_total least_ties rows others g h
both_ordered Set limit rows others g h = tt
both_ordered Collection limit rows others g h = tt
