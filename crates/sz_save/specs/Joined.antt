-- Tables joined: what two saved states with the same declarations are together.
use Rattle.std.specs.Prelude.{◌≡◌, ◌||◌, ℕ, ℤ, ◌+◌, ⊤, if◌then◌else◌, Option, Some, None, List, [], ◌∷◌, ◌++◌, map, take, flat_map, option_to_list}
use Rattle.std.specs.Ordering.{int_cmp, then_cmp, on, flip_args, is_eq}
use Rattle.std.specs.Option.{option_cmp}
use Rattle.std.specs.declared.cmp.Ordering.{Ordering}
use Rattle.sz_types.specs.Tables.{Declaration}
use Rattle.sz_types.specs.declared.table.TableKind.{TableKind}
use Rattle.sz_types.specs.declared.table.TableKind.TheVariants.{Sum, Maximum, Minimum, Set, Collection}
use Rattle.sz_value.specs.Data.{Datum}
use Rattle.sz_value.specs.Order.{compare}
use Rattle.sz_tabs.specs.Data.{Shown, one, sums, overflow, RowDatum}
use Rattle.sz_tabs.specs.Sorting.{sorted, distinct}
use Rattle.sz_tabs.specs.Rows.{compare_indexes, plus, value_row, overflow_row, set_rows}
use Rattle.sz_total.specs.Tables.{Indexed}
use Rattle.sz_save_format.specs.Entries.{overflows}
use Rattle.sz_save_format.specs.Saved.{SavedState}

-- the value that is shown, if it is one
abbrev pub value_in : Shown → Option Datum
value_in (one value) = Some value
value_in (sums numbers) = None
value_in overflow = None

-- the values that rows show
abbrev pub values_shown : List RowDatum → List Datum
values_shown rows = flat_map (λ (row : RowDatum). option_to_list (value_in row.shown)) rows

-- the sums that are shown
abbrev pub sums_in : Shown → List ℤ
sums_in (sums numbers) = numbers
sums_in (one value) = []
sums_in overflow = []

-- the least weight first, and of equal weights the lesser value
abbrev pub least_rows : RowDatum → RowDatum → Ordering
least_rows = then_cmp (on (λ (row : RowDatum). row.weight) (option_cmp int_cmp))
    (on (λ (row : RowDatum). value_in row.shown) (option_cmp compare))

-- the greatest weight first, and of equal weights the lesser value
abbrev pub greatest_rows : RowDatum → RowDatum → Ordering
greatest_rows =
    then_cmp (on (λ (row : RowDatum). row.weight) (flip_args (option_cmp int_cmp)))
    (on (λ (row : RowDatum). value_in row.shown) (option_cmp compare))

-- the row of both sums, where both sides have one
abbrev pub joined_sums : List RowDatum → List RowDatum → List RowDatum
joined_sums [] others = others
joined_sums (row ∷ rows) [] = row ∷ rows
joined_sums (row ∷ rows) (other ∷ others) =
    record { shown = sums (plus (sums_in row.shown) (sums_in other.shown)); weight = None } ∷ []

-- a set has too many values where either side has, or both together
abbrev pub joined_sets : ℕ → List RowDatum → List RowDatum → List RowDatum
joined_sets limit rows others =
    if overflows rows || overflows others then overflow_row ∷ []
    else set_rows limit (distinct compare (values_shown rows ++ values_shown others))

-- the rows of both sides under one index list, of a table of a kind and a limit: the sums added; the first of all in
-- their order, up to the limit; the distinct values, or that there are too many; or all values in order
abbrev pub joined_rows : TableKind → ℕ → List RowDatum → List RowDatum → List RowDatum
joined_rows Sum limit rows others = joined_sums rows others
joined_rows Maximum limit rows others = take limit (sorted greatest_rows (rows ++ others))
joined_rows Minimum limit rows others = take limit (sorted least_rows (rows ++ others))
joined_rows Set limit rows others = joined_sets limit rows others
joined_rows Collection limit rows others = map value_row (sorted compare (values_shown rows ++ values_shown others))

-- the rows of a table under an index list, none where it isn't there
abbrev pub rows_at : List Indexed → List Datum → List RowDatum
rows_at [] indexes = []
rows_at (entry ∷ entries) indexes =
    if is_eq (compare_indexes entry.indexes indexes) then entry.rows else rows_at entries indexes

-- under each index list the table has the rows of both sides
pub record JoinsTable (table : Declaration) (entries others both : List Indexed) : Type 0 where
  pub rows : (indexes : List Datum)
      → rows_at both indexes ≡ joined_rows table.kind table.limit (rows_at entries indexes) (rows_at others indexes)

-- the same of each of the declared tables, of which there are as many on both sides
abbrev pub JoinTables : List Declaration → List (List Indexed) → List (List Indexed) → List (List Indexed) → Type 0
JoinTables [] [] [] [] = ⊤
JoinTables (d ∷ ds) (t ∷ ts) (u ∷ us) (b ∷ bs) = JoinsTable d t u b × JoinTables ds ts us bs
JoinTables _ _ _ _ = ⊥

-- the declarations are those of both sides, the bounds are added, and the rows joined
pub record Joins (one other both : SavedState) : Type 0 where
  pub same : other.decls ≡ one.decls
  pub decls : both.decls ≡ one.decls
  pub bound : both.bound ≡ one.bound + other.bound
  pub tables : JoinTables one.decls one.tables other.tables both.tables
