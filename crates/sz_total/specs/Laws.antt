-- Laws of the rows of tables, in words of lists and sets.
use Rattle.std.specs.Prelude.{◌≡◌, ℕ, List, map, Contains, IsPermutation}
use Rattle.std.specs.List.Sorted.{IsStrictlySortedBy}
use Rattle.sz_types.specs.Tables.{Declaration}
use Rattle.sz_value.specs.Data.{Datum}
use Rattle.sz_tabs.specs.Data.{EmitDatum}
use Rattle.sz_tabs.specs.Rows.{compare_indexes}
use Rattle.sz_total.specs.Tables.{Indexed, indexes_to, table_rows}

-- the index lists that have rows
abbrev pub indexes_shown : List Indexed → List (List Datum)
indexes_shown shown = map (λ (s : Indexed). s.indexes) shown

-- the index lists with rows rise in value order, each index list of an emit to the table is among them, and no other is
pub record ShowsItsIndexes (table : ℕ) (declaration : Declaration) (emits : List EmitDatum) : Type 0 where
  pub rises : IsStrictlySortedBy compare_indexes (indexes_shown (table_rows table declaration emits))
  pub has_each : (indexes : List Datum) → Contains (indexes_to table emits) indexes
      → Contains (indexes_shown (table_rows table declaration emits)) indexes
  pub has_no_other : (indexes : List Datum) → Contains (indexes_shown (table_rows table declaration emits)) indexes
      → Contains (indexes_to table emits) indexes

-- the rows of a table are the same in whatever order the emits came
abbrev pub ForgetsOrder : Type 0
ForgetsOrder =
    (table : ℕ) (declaration : Declaration) (first second : List EmitDatum) → IsPermutation first second
    → table_rows table declaration first ≡ table_rows table declaration second
