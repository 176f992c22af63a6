-- No sum that a table shows is further from 0 than the table's emits can bring it.
use Rattle.std.proofs.Common.{◌≡◌, ◌∙◌, ℕ, ◌*◌, ◌^◌, ◌≤◌, ◌<◌, ℤ, Bool, true, false, cond, Option, Some, None, List, [], ◌∷◌, map, take, refl, sym, ap, subst, arith}
use Rattle.std.specs.Prelude.{IfSome, nat_lt, length, slice_index_or}
use Rattle.std.specs.Option.{option_map_or}
use Rattle.std.specs.Map.{keys_of, lookup}
use Rattle.std.proofs.lemmas.Int.{ints}
use Rattle.std.proofs.lemmas.List.{get_or-map, length-map}
use Rattle.std.proofs.lemmas.List.Elements.{All-nil, All-cons, All-weaker}
use Rattle.std.proofs.lemmas.Map.Views.{IfSome-lookup_from_All}
use Rattle.sz_types.specs.Tables.{Declaration}
use Rattle.sz_types.specs.declared.table.TableKind.{TableKind}
use Rattle.sz_types.specs.declared.table.TableKind.TheVariants as kinds
use Rattle.sz_value.specs.Data.{Datum}
use Rattle.sz_value.specs.Order.{compare}
use Rattle.sz_tabs.specs.Bounds.{AreWithin}
use Rattle.sz_tabs.specs.Data.{Weighted, Shown, one, sums, overflow, RowDatum}
use Rattle.sz_tabs.specs.Rows.{compare_indexes, value_row, weighted_row, overflow_row, least_first, greatest_first, rows_by}
use Rattle.sz_tabs.specs.Rows as rows
use Rattle.sz_tabs.specs.Sorting.{sorted, distinct}
use Rattle.sz_members.specs.Data.{emits_of}
use Rattle.sz_total.specs.Tables.{Indexed}
use Rattle.sz_total.specs.States.{TotalState, shown}
use Rattle.sz_total.specs.Aggregates.{Family, shown_of, family_for, IsBounded}
use Rattle.sz_total.specs.Aggregates as families
use Rattle.sz_total.specs.Bounded.{IsShownWithin, RowsAreWithin, SumsAreWithin}
use Rattle.sz_total.specs.Entries.{Entries, same_indexes, rows_found, indexed, rows_in_order, IsOfTable, AreOfTable, AreBounded}
use Rattle.sz_total.specs.OneTable.{TableState, table_shown, AreTables, state_of}
use Rattle.sz_total.specs.declared.aggregate.Aggregate.{Aggregate}
use Rattle.sz_total.specs.declared.aggregate.Aggregate.TheVariants.{Sum, Extreme, Members}

-- what is near is no further than what is far
longer_within : (few many : ℕ) → few ≤ many → (ns : List ℤ) → AreWithin few ns → AreWithin many ns
longer_within few many more [] h = tt
longer_within few many more (n ∷ ns) h = (
  record { low = omega (arith, ints, more, h.0.low); high = omega (arith, ints, more, h.0.high) },
  longer_within few many more ns h.1,
)

module _ (most : ℕ) where
  abbrev RowWithin : RowDatum → Type 0
  RowWithin row = IsShownWithin most row.shown

  -- the rows of a sum
  sum_within : (b : Bool) (numbers : List ℤ) → AreWithin most numbers
      → RowsAreWithin most (cond b (record { shown = sums numbers; weight = None } ∷ []) [])
  sum_within true numbers h =
      All-cons RowWithin (record { shown = sums numbers; weight = None }) [] h (All-nil RowWithin)
  sum_within false numbers h = All-nil RowWithin

  values_within : (values : List Datum) → RowsAreWithin most (map value_row values)
  values_within [] = All-nil RowWithin
  values_within (v ∷ vs) = All-cons RowWithin (value_row v) (map value_row vs) tt (values_within vs)

  weighted_within : (ws : List Weighted) → RowsAreWithin most (map weighted_row ws)
  weighted_within [] = All-nil RowWithin
  weighted_within (w ∷ ws) = All-cons RowWithin (weighted_row w) (map weighted_row ws) tt (weighted_within ws)

  set_within : (b : Bool) (values : List Datum) → RowsAreWithin most (cond b (overflow_row ∷ []) (map value_row values))
  set_within true values = All-cons RowWithin overflow_row [] tt (All-nil RowWithin)
  set_within false values = values_within values

  -- no other table shows sums
  rows_without_sums : (kind : TableKind) (limit : ℕ) (brought : List Weighted) → (family_for kind ≡ families.sums → ⊥)
      → RowsAreWithin most (rows_by kind limit brought)
  rows_without_sums kinds.Sum limit brought other = absurd (other refl)
  rows_without_sums kinds.Maximum limit brought other = weighted_within (take limit (sorted greatest_first brought))
  rows_without_sums kinds.Minimum limit brought other = weighted_within (take limit (sorted least_first brought))
  rows_without_sums kinds.Set limit brought other =
      set_within (nat_lt limit (length (distinct compare (rows.values_of brought))))
      (distinct compare (rows.values_of brought))
  rows_without_sums kinds.Collection limit brought other = values_within (sorted compare (rows.values_of brought))

abbrev is_sums : Family → Bool
is_sums families.sums = true
is_sums _ = false

-- what an aggregator of the table shows
shown_within : (table : Declaration) (count : ℕ) (a : Aggregate) → IsOfTable table count a → IsBounded a
    → RowsAreWithin (2 ^ 63 * count) (shown_of a)
shown_within table count (Sum s) is bounded =
    sum_within (2 ^ 63 * count) (nat_lt 0 s.count) s.numbers
    (longer_within (2 ^ 63 * s.count) (2 ^ 63 * count) (omega (arith, is.few)) s.numbers bounded)
shown_within table count (Extreme e) is bounded =
    rows_without_sums (2 ^ 63 * count) e.table.kind e.table.limit e.kept
    (λ same. let no = ap is_sums (is.family ∙ ap (λ (t : Declaration). family_for t.kind) (sym is.declared) ∙ same) in
    absurd cc)
shown_within table count (Members m) is bounded =
    rows_without_sums (2 ^ 63 * count) m.table.kind m.table.limit (emits_of m.kept)
    (λ same. let no = ap is_sums (is.family ∙ ap (λ (t : Declaration). family_for t.kind) (sym is.declared) ∙ same) in
    absurd cc)

-- what is shown under each index list
module _ (table : Declaration) (count : ℕ) (entries : Entries) (are : AreOfTable table count entries)
    (bounded : AreBounded entries) where
  found_within : (indexes : List Datum) → RowsAreWithin (2 ^ 63 * count) (rows_found entries indexes)
  found_within indexes =
      by_found (lookup (same_indexes indexes) entries)
      (IfSome-lookup_from_All (IsOfTable table count) (same_indexes indexes) entries are)
      (IfSome-lookup_from_All IsBounded (same_indexes indexes) entries bounded)
    where
      by_found : (found : Option Aggregate) → IfSome found (IsOfTable table count) → IfSome found IsBounded
          → RowsAreWithin (2 ^ 63 * count) (option_map_or shown_of found [])
      by_found None is near = All-nil (λ (row : RowDatum). IsShownWithin (2 ^ 63 * count) row.shown)
      by_found (Some a) is near = shown_within table count a is near

  each_within : (lists : List (List Datum)) → SumsAreWithin (2 ^ 63 * count) (map (indexed entries) lists)
  each_within [] = All-nil (λ (i : Indexed). RowsAreWithin (2 ^ 63 * count) i.rows)
  each_within (l ∷ ls) =
      All-cons (λ (i : Indexed). RowsAreWithin (2 ^ 63 * count) i.rows) (indexed entries l) (map (indexed entries) ls)
      (found_within l) (each_within ls)

  pub table_within : SumsAreWithin (2 ^ 63 * count) (rows_in_order entries)
  table_within = each_within (distinct compare_indexes (keys_of entries))

-- what is near is no further than what is far, in rows
shown_longer : (few many : ℕ) → few ≤ many → (shown : Shown) → IsShownWithin few shown → IsShownWithin many shown
shown_longer few many more (sums numbers) h = longer_within few many more numbers h
shown_longer few many more (one value) h = tt
shown_longer few many more overflow h = tt

sums_longer : (few many : ℕ) → few ≤ many → (all : List Indexed) → SumsAreWithin few all → SumsAreWithin many all
sums_longer few many more all h =
    All-weaker (λ (i : Indexed). RowsAreWithin few i.rows) (λ (i : Indexed). RowsAreWithin many i.rows)
    (λ i near. All-weaker (λ (row : RowDatum). IsShownWithin few row.shown)
    (λ (row : RowDatum). IsShownWithin many row.shown)
    (λ row near. shown_longer few many more row.shown near) i.rows near)
    all h

-- a table of all tables
module _ (tables : List Declaration) (count : ℕ) (states : List TableState) (are : AreTables tables count states)
    (total : TotalState)
    (is : state_of tables count states ≡ total) (at : ℕ) where
  pub is_there : at < length total.tables → at < length states
  is_there low =
      let as_many = ap length are.declared in
      let mapped = length-map states (λ (s : TableState). s.table) in
      let same = ap (λ (t : TotalState). length t.tables) is in
      omega (arith, low, as_many, mapped, same)

  pub total_within : at < length states → (s : TableState) → ((d : TableState) → s ≡ slice_index_or states at d)
      → SumsAreWithin (2 ^ 63 * s.count) (table_shown s) → SumsAreWithin (2 ^ 63 * total.count) (shown total at)
  total_within low s there near =
      let few = are.few at s low in
      let less : s.count ≤ count = subst (λ (t : TableState). t.count ≤ count) (sym (there s)) few in
      let same : slice_index_or (map table_shown states) at [] ≡ table_shown s =
      get_or-map table_shown states at s [] low ∙ ap table_shown (sym (there s)) in
      subst (λ (t : TotalState). SumsAreWithin (2 ^ 63 * t.count) (shown t at)) is
      (subst (SumsAreWithin (2 ^ 63 * count)) (sym same)
      (sums_longer (2 ^ 63 * s.count) (2 ^ 63 * count) (omega (arith, less)) (table_shown s) near))
