-- What a table keeps: an aggregator for each index list, the rows that these show, and what one emit more does to them.
use Rattle.std.specs.Prelude.{◌≡◌, ◌≤◌, ◌+◌, ℕ, Bool, false, List, [], ◌∷◌, ◌++◌, map, All, IsPermutation}
use Rattle.std.specs.List.{IsDistinct}
use Rattle.std.specs.Ordering.{is_eq}
use Rattle.std.specs.Option.{option_map_or}
use Rattle.std.specs.Map.{keys_of, values_of, lookup}
use Rattle.std.specs.BTreeSet.{insert_key}
use Rattle.sz_types.specs.Tables.{Declaration}
use Rattle.sz_value.specs.Data.{Datum}
use Rattle.sz_tabs.specs.Data.{EmitDatum, Weighted, RowDatum}
use Rattle.sz_tabs.specs.Aggregating.{StandsFor}
use Rattle.sz_tabs.specs.Rows.{compare_indexes, brought_by, rows_of}
use Rattle.sz_tabs.specs.Sorting.{distinct}
use Rattle.sz_total.specs.Short.{AreShort}
use Rattle.sz_total.specs.Tables.{Indexed}
use Rattle.sz_total.specs.Aggregates.{declaration_of, count_of, shown_of, IsBounded, family_of, family_for}
use Rattle.sz_total.specs.declared.aggregate.Aggregate.{Aggregate}

-- aggregators under their index lists
abbrev pub Entries : Type 0
Entries = List (List Datum × Aggregate)

-- whether two index lists are the same
abbrev pub same_indexes : List Datum → List Datum → Bool
same_indexes indexes others = is_eq (compare_indexes indexes others)

-- the rows under an index list: those of its aggregator, and none where there is none
abbrev pub rows_found : Entries → List Datum → List RowDatum
rows_found entries indexes = option_map_or shown_of (lookup (same_indexes indexes) entries) []

-- an index list with the rows under it
abbrev pub indexed : Entries → List Datum → Indexed
indexed entries indexes = record { indexes = indexes; rows = rows_found entries indexes }

-- an index list with the rows of its aggregator
abbrev pub entry_rows : List Datum × Aggregate → Indexed
entry_rows entry = record { indexes = entry.0; rows = shown_of entry.1 }

-- the rows under each index list, these in value order
abbrev pub rows_in_order : Entries → List Indexed
rows_in_order entries = map (indexed entries) (distinct compare_indexes (keys_of entries))

-- the new entries are the old ones, and those of any order that has no index list twice, with its rows in value order
pub record SortsAll (old new : Entries) : Type 0 where
  pub same : IsPermutation old new
  pub rows : (all : Entries) → IsDistinct same_indexes (keys_of all) → IsPermutation all old
      → map entry_rows new ≡ rows_in_order all

-- the aggregator is one of the table and of the family that its kind needs, counts at most so many emits, and stands
-- for some list of emits whose values have short lengths
pub record IsOfTable (table : Declaration) (count : ℕ) (aggregate : Aggregate) : Type 0 where
  pub declared : declaration_of aggregate ≡ table
  pub family : family_of aggregate ≡ family_for table.kind
  pub few : count_of aggregate ≤ count
  pub emits : List Weighted
  pub stands : StandsFor declaration_of count_of shown_of aggregate emits
  pub short : AreShort emits

-- each aggregator is such
abbrev pub AreOfTable : Declaration → ℕ → Entries → Type 0
AreOfTable table count entries = All (IsOfTable table count) (values_of entries)

-- each aggregator that is a sum is no further from 0 than its emits can bring it
abbrev pub AreBounded : Entries → Type 0
AreBounded entries = All IsBounded (values_of entries)

-- the rows under the emit's index list are those of one emit more, those under others stay, and what was kept to
-- still is
pub record TakesEmit (table : Declaration) (emit : EmitDatum) (old new : Entries) : Type 0 where
  pub indexes : distinct compare_indexes (keys_of new)
      ≡ insert_key compare_indexes (distinct compare_indexes (keys_of old)) emit.indexes
  pub rows : (emits : List Weighted) → rows_found old emit.indexes ≡ rows_of table emits
      → rows_found new emit.indexes ≡ rows_of table (emits ++ brought_by emit ∷ [])
  pub others : (indexes : List Datum) → same_indexes emit.indexes indexes ≡ false
      → rows_found new indexes ≡ rows_found old indexes
  pub still : (count : ℕ) → AreOfTable table count old → AreOfTable table (count + 1) new
