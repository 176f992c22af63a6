-- The lines of the rows of tables.
use Rattle.std.specs.Prelude.{ℕ, ℤ, Bool, true, false, if◌then◌else◌, Option, Some, None, List, [], ◌∷◌, ◌++◌, codes}
use Rattle.std.specs.List.{flat_map}
use Rattle.std.specs.Fmt.{signed_decimal}
use Rattle.sz_types.specs.Data.{Shape}
use Rattle.sz_types.specs.Tables.{Declaration}
use Rattle.sz_value.specs.Data.{Datum}
use Rattle.sz_tabs.specs.Data.{Shown, one, sums, overflow, RowDatum}
use Rattle.sz_print.specs.Joined.{joined}
use Rattle.sz_print.specs.Text.{value_text}

-- whether the elements of a table are numbers
abbrev pub is_number : Shape → Bool
is_number Shape.int = true
is_number _ = false

-- the sum of numbers, or the sums of tuples in braces
abbrev pub sums_text : Shape → List ℤ → List ℕ
sums_text element numbers =
    if is_number element then joined signed_decimal numbers else 123 ∷ joined signed_decimal numbers ++ 125 ∷ []

-- what a row shows, of a table with elements of this type
abbrev pub shown_text : Shape → Shown → List ℕ
shown_text element (one value) = value_text value
shown_text element (sums numbers) = sums_text element numbers
shown_text element overflow = codes "overflow"

-- the weight, if the table has weights
abbrev pub weight_text : Option ℤ → List ℕ
weight_text None = []
weight_text (Some weight) = codes " weight " ++ signed_decimal weight

-- an index in brackets
abbrev pub index_text : Datum → List ℕ
index_text index = 91 ∷ value_text index ++ 93 ∷ []

-- each index in brackets, or a pair of brackets where the table has none
abbrev pub indexes_text : List Datum → List ℕ
indexes_text [] = codes "[]"
indexes_text (d ∷ ds) = flat_map index_text (d ∷ ds)

-- the line of a row: the table's name, its index list, what the row shows and its weight
abbrev pub row_line : Declaration → List Datum → RowDatum → List ℕ
row_line table indexes row =
    table.name ++ indexes_text indexes ++ codes " = " ++ shown_text table.element row.shown
    ++ weight_text row.weight ++ 10 ∷ []

-- a line for each row
abbrev pub row_lines : Declaration → List Datum → List RowDatum → List ℕ
row_lines table indexes rows = flat_map (row_line table indexes) rows
