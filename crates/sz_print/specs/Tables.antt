-- The text of all tables.
use Rattle.std.specs.Prelude.{ℕ, suc, List, [], ◌∷◌, ◌++◌, slice_index_or}
use Rattle.std.specs.List.{flat_map}
use Rattle.sz_types.specs.Tables.{Declaration}
use Rattle.sz_tabs.specs.Data.{EmitDatum}
use Rattle.sz_total.specs.Tables.{Indexed, table_rows}
use Rattle.sz_print.specs.Lines.{row_lines}

-- the lines of a table, index list by index list
abbrev pub table_lines : Declaration → List Indexed → List ℕ
table_lines table shown = flat_map (λ (s : Indexed). row_lines table s.indexes s.rows) shown

-- the lines of tables in order, of which the first has this number, where the table with a number shows these rows
abbrev pub lines_shown : ℕ → List Declaration → (ℕ → List Indexed) → List ℕ
lines_shown number [] rows = []
lines_shown number (d ∷ ds) rows = table_lines d (rows number) ++ lines_shown (suc number) ds rows

-- the text of the tables of a program that show these rows: table by table in the order of their declarations
abbrev pub rows_text : List Declaration → (ℕ → List Indexed) → List ℕ
rows_text tables rows = lines_shown 0 tables rows

-- the text of tables whose rows are these lists, table by table
abbrev pub lists_text : List Declaration → List (List Indexed) → List ℕ
lists_text tables lists = rows_text tables (λ number. slice_index_or lists number [])

-- the lines of tables in order, of which the first has this number, for all emits
abbrev pub lines_from : ℕ → List Declaration → List EmitDatum → List ℕ
lines_from number [] emits = []
lines_from number (d ∷ ds) emits = table_lines d (table_rows number d emits) ++ lines_from (suc number) ds emits

-- the text of the tables of a program for all emits: table by table in the order of their declarations
abbrev pub tables_text : List Declaration → List EmitDatum → List ℕ
tables_text tables emits = lines_from 0 tables emits
