-- What tables show of emits that fit them fits them too.
use Rattle.std.proofs.Common.{◌≡◌, ◌∙◌, ℕ, suc, ℤ, Bool, true, false, cond, ◌&&◌, Some, None, List, [], ◌∷◌, map, filter, take, length, refl, sym, ap, subst, arith, All, nat_eq}
use Rattle.std.specs.Prelude.{slice_get, nat_lt, is_some}
use Rattle.std.specs.Cmp.{IsTotalOrder}
use Rattle.std.specs.Ordering.{eq_by_cmp}
use Rattle.std.specs.declared.cmp.Ordering.{Ordering}
use Rattle.std.proofs.lemmas.Bool.{eqb-true}
use Rattle.std.proofs.lemmas.List.Elements.{All-head, All-tail, All-cons, All-nil, All-map, All-take, All-weaker}
use Rattle.std.proofs.lemmas.List.Filters.{All-dedup}
use Rattle.std.proofs.lemmas.List.Sorted.{All-permutation}
use Rattle.sz_types.specs.Tables.{Declaration}
use Rattle.sz_types.specs.declared.table.TableKind.{TableKind}
use Rattle.sz_types.specs.declared.table.TableKind.TheVariants.{Sum, Maximum, Minimum, Set, Collection}
use Rattle.sz_types.specs.Types.{has_type, have_types}
use Rattle.sz_value.specs.Data.{Datum, data_of}
use Rattle.sz_value.specs.Order.{compare}
use Rattle.sz_value.specs.Total.{compare_total}
use Rattle.sz_flat.specs.Spelling.{HasShortLengths, HaveShortLengths}
use Rattle.sz_tabs.specs.Data.{EmitDatum, Weighted, one, sums, RowDatum}
use Rattle.sz_tabs.specs.Fitting.{Fits, IsEmitTo}
use Rattle.sz_tabs.specs.Rows.{compare_indexes, went_to, brought_by, brought_to, values_of, components_of, plus, sums_of, sum_rows, value_row, weighted_row, overflow_row, rows_by, rows_of}
use Rattle.sz_tabs.specs.Sorting.{sorted, distinct}
use Rattle.sz_tabs.proofs.ForCallers.{sorted_is_permutation, least_total, greatest_total}
use Rattle.sz_sum.specs.Data.{width}
use Rattle.sz_sum.proofs.WidthLemmas.{components_wide}
use Rattle.sz_total.specs.Short.{HasShortParts}
use Rattle.sz_total.specs.Weights.{ranks}
use Rattle.sz_total.specs.Tables.{indexes_to, rows_under, table_rows}
use Rattle.sz_total.specs.Typed.{may_show, FitsShown, FitsRow, FitsTable, FitsAsItsEmits}
use Rattle.sz_total.proofs.TablesLemmas.{indexes_total}

-- what is known of each element is known of those of its sorted list, and of the distinct ones
all_sorted : {X : Type 0} {order : X → X → Ordering} → IsTotalOrder order → (P : X → Type 0) (xs : List X) → All P xs
    → All P (sorted order xs)
all_sorted {X} {order} total P xs all = All-permutation P xs (sorted order xs) (sorted_is_permutation total xs) all

all_distinct : {X : Type 0} {order : X → X → Ordering} → IsTotalOrder order → (P : X → Type 0) (xs : List X)
    → All P xs → All P (distinct order xs)
all_distinct {X} {order} total P xs all = All-dedup (eq_by_cmp order) P (sorted order xs) (all_sorted total P xs all)

-- what a test and what is known of each element give, is known of those that pass
passed_all : {X : Type 0} (test : X → Bool) (P Q : X → Type 0) → ((x : X) → test x ≡ true → P x → Q x)
    → (xs : List X) → All P xs → All Q (filter test xs)
passed_all test P Q give [] all = All-nil Q
passed_all test P Q give (x ∷ xs) all = by_test (test x) refl (passed_all test P Q give xs (All-tail P x xs all))
  where
    by_test : (b : Bool) → test x ≡ b → All Q (filter test xs) → All Q (cond b (x ∷ filter test xs) (filter test xs))
    by_test true is rest = All-cons Q x (filter test xs) (give x is (All-head P x xs all)) rest
    by_test false is rest = rest

-- a list of values whose sums are as many as those of each
length_of_plus : (ms ns : List ℤ) → length ns ≡ length ms → length (plus ms ns) ≡ length ms
length_of_plus [] ns same = same
length_of_plus (m ∷ ms) [] same = refl
length_of_plus (m ∷ ms) (n ∷ ns) same = ap suc (length_of_plus ms ns (omega (arith, same)))

-- a row of a table that is of this kind
record FitsAs (table : Declaration) (kind : TableKind) (row : RowDatum) : Type 0 where
  shows : may_show kind row.shown ≡ true
  element : FitsShown table row.shown
  weight : is_some row.weight ≡ (ranks kind && is_some table.weight)

-- what is brought to a table fits it, and has short lengths
record Comes (table : Declaration) (w : Weighted) : Type 0 where
  fits : Fits table w
  short : HasShortLengths w.value

-- the rows of what fits a table
module _ (table : Declaration) (brought : List Weighted) (come : All (Comes table) brought) where
  abbrev RowFits : TableKind → RowDatum → Type 0
  RowFits kind row = FitsAs table kind row

  abbrev Typed : Datum → Type 0
  Typed value = (has_type value table.element ≡ true) × HasShortLengths value

  typed : All Typed (values_of brought)
  typed =
      All-map Typed (λ (w : Weighted). w.value) brought
      (All-weaker (Comes table) (λ (w : Weighted). Typed w.value) (λ w c. (c.fits.element, c.short)) brought come)

  rows_of_values : (kind : TableKind) → ((v : Datum) → may_show kind (one v) ≡ true)
      → false ≡ (ranks kind && is_some table.weight)
      → (values : List Datum) → All Typed values → All (RowFits kind) (map value_row values)
  rows_of_values kind may none values all =
      All-map (RowFits kind) value_row values
      (All-weaker Typed (λ (v : Datum). RowFits kind (value_row v))
      (λ v fits. record { shows = may v; element = fits; weight = none }) values all)

  rows_by_weight : (kind : TableKind) → ((v : Datum) → may_show kind (one v) ≡ true)
      → is_some table.weight ≡ (ranks kind && is_some table.weight)
      → {order : Weighted → Weighted → Ordering} → IsTotalOrder order → (limit : ℕ)
      → All (RowFits kind) (map weighted_row (take limit (sorted order brought)))
  rows_by_weight kind may ranked {order} total limit =
      All-map (RowFits kind) weighted_row (take limit (sorted order brought))
      (All-weaker (Comes table) (λ (w : Weighted). RowFits kind (weighted_row w))
      (λ w c. record { shows = may w.value; element = (c.fits.element, c.short); weight = c.fits.weight ∙ ranked })
      (take limit (sorted order brought))
      (All-take (Comes table) limit (sorted order brought) (all_sorted total (Comes table) brought come)))

  one_row : (kind : TableKind) (row : RowDatum) → RowFits kind row → All (RowFits kind) (row ∷ [])
  one_row kind row fits = All-cons (RowFits kind) row [] fits (All-nil (RowFits kind))

  sums_wide : (v : Datum) (vs : List Datum) → All Typed (v ∷ vs) → length (sums_of (v ∷ vs)) ≡ width table.element
  sums_wide v [] all =
      let here = components_wide v table.element (All-head Typed v [] all).0 in
      length_of_none (components_of v) ∙ here
    where
      length_of_none : (ns : List ℤ) → length (plus ns []) ≡ length ns
      length_of_none [] = refl
      length_of_none (n ∷ ns) = refl
  sums_wide v (w ∷ ws) all =
      let here = components_wide v table.element (All-head Typed v (w ∷ ws) all).0 in
      let later = sums_wide w ws (All-tail Typed v (w ∷ ws) all) in
      length_of_plus (components_of v) (sums_of (w ∷ ws)) (later ∙ sym here) ∙ here

  rows_of_sum : (values : List Datum) → All Typed values → All (RowFits Sum) (sum_rows values)
  rows_of_sum [] all = All-nil (RowFits Sum)
  rows_of_sum (v ∷ vs) all =
      one_row Sum (record { shown = sums (sums_of (v ∷ vs)); weight = None })
      (record { shows = refl; element = sums_wide v vs all; weight = refl })

  rows_of_set : (b : Bool) (values : List Datum) → All Typed values
      → All (RowFits Set) (cond b (overflow_row ∷ []) (map value_row values))
  rows_of_set true values all = one_row Set overflow_row (record { shows = refl; element = tt; weight = refl })
  rows_of_set false values all = rows_of_values Set (λ v. refl) refl values all

  rows_for : (kind : TableKind) (limit : ℕ) → All (RowFits kind) (rows_by kind limit brought)
  rows_for Sum limit = rows_of_sum (values_of brought) typed
  rows_for Maximum limit = rows_by_weight Maximum (λ v. refl) refl greatest_total limit
  rows_for Minimum limit = rows_by_weight Minimum (λ v. refl) refl least_total limit
  rows_for Set limit =
      rows_of_set (nat_lt limit (length (distinct compare (values_of brought)))) (distinct compare (values_of brought))
      (all_distinct compare_total Typed (values_of brought) typed)
  rows_for Collection limit =
      rows_of_values Collection (λ v. refl) refl (sorted compare (values_of brought))
      (all_sorted compare_total Typed (values_of brought) typed)

  rows_fit : All (FitsRow table) (rows_of table brought)
  rows_fit =
      All-weaker (RowFits table.kind) (FitsRow table)
      (λ row f. record { kind = f.shows; element = f.element; weight = f.weight }) (rows_of table brought)
      (rows_for table.kind table.limit)

first_holds : (a b : Bool) → (a && b) ≡ true → a ≡ true
first_holds true b both = refl
first_holds false b both = both

-- what emits that fit bring to a declared table
module _ (tables : List Declaration) (number : ℕ) (table : Declaration)
    (declared : slice_get tables number ≡ Some table) (emits : List EmitDatum)
    (known : All (λ (e : EmitDatum). IsEmitTo tables e × HasShortParts e) emits) where
  is_its : (e : EmitDatum) → nat_eq e.table number ≡ true → (to : IsEmitTo tables e) → to.table ≡ table
  is_its e here to =
      let same = sym to.declared ∙ ap (slice_get tables) (eqb-true e.table number here) ∙ declared in cc

  abbrev FitsLists : List Datum → Type 0
  FitsLists l = (have_types l table.indexes ≡ true) × HaveShortLengths (data_of l)

  -- what is known of an emit that is declared for a table
  abbrev Known : EmitDatum → Type 0
  Known e = IsEmitTo tables e × HasShortParts e

  lists_fit : All FitsLists (indexes_to number emits)
  lists_fit =
      All-map FitsLists (λ (e : EmitDatum). e.indexes) (filter (λ (e : EmitDatum). nat_eq e.table number) emits)
      (passed_all (λ (e : EmitDatum). nat_eq e.table number) Known (λ (e : EmitDatum). FitsLists e.indexes)
      (λ e here known. (
        subst (λ (d : Declaration). have_types e.indexes d.indexes ≡ true) (is_its e here known.0) known.0.indexes,
        known.1.indexes,
      )) emits known)

  brought_come : (indexes : List Datum) → All (Comes table) (brought_to number indexes emits)
  brought_come indexes =
      All-map (Comes table) brought_by (filter (went_to number indexes) emits)
      (passed_all (went_to number indexes) Known (λ (e : EmitDatum). Comes table (brought_by e))
      (λ e went known. record {
        fits = subst (λ d. Fits d (brought_by e)) (is_its e (first_holds _ _ went) known.0) known.0.fits;
        short = known.1.value;
      }) emits known)

  shown_fits : All (FitsTable table) (table_rows number table emits)
  shown_fits =
      let lists = distinct compare_indexes (indexes_to number emits) in
      All-map (FitsTable table) (rows_under number table emits) lists
      (All-weaker FitsLists (λ (l : List Datum). FitsTable table (rows_under number table emits l))
      (λ l fits. record {
        indexes = fits.0;
        short = fits.1;
        rows = rows_fit table (brought_to number l emits) (brought_come l);
      }) lists
      (all_distinct indexes_total FitsLists (indexes_to number emits) lists_fit))

pub shows_what_fits : FitsAsItsEmits
shows_what_fits total come number table declared =
    let known : All (λ (e : EmitDatum). IsEmitTo total.tables e × HasShortParts e) come.emits =
    λ k d within. (come.fit k d within, come.short k d within) in
    subst (All (FitsTable table)) (sym (come.stands.rows number table declared))
    (shown_fits total.tables number table declared come.emits known)
