-- Which rows the tables of a program have of a list of emits, index list by index list.
use Rattle.std.specs.Prelude.{ℕ, nat_eq, List, map, filter}
use Rattle.sz_types.specs.Tables.{Declaration}
use Rattle.sz_value.specs.Data.{Datum}
use Rattle.sz_tabs.specs.Data.{EmitDatum, RowDatum}
use Rattle.sz_tabs.specs.Rows.{compare_indexes, brought_to, rows_of}
use Rattle.sz_tabs.specs.Sorting.{distinct}

-- the index lists of the emits to the table with this number, in the order in which they came
abbrev pub indexes_to : ℕ → List EmitDatum → List (List Datum)
indexes_to table emits = map (λ (e : EmitDatum). e.indexes) (filter (λ (e : EmitDatum). nat_eq e.table table) emits)

-- an index list, and the rows under it
pub record Indexed : Type 0 where
  pub indexes : List Datum
  pub rows : List RowDatum

-- the rows under an index list of what the emits bring to the table under it
abbrev pub rows_under : ℕ → Declaration → List EmitDatum → List Datum → Indexed
rows_under table declaration emits indexes = record {
  indexes = indexes;
  rows = rows_of declaration (brought_to table indexes emits);
}

-- the rows of a declared table with this number: its index lists in value order, each once, with the rows under it
abbrev pub table_rows : ℕ → Declaration → List EmitDatum → List Indexed
table_rows table declaration emits =
    map (rows_under table declaration emits) (distinct compare_indexes (indexes_to table emits))
