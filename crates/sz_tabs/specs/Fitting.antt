-- Which values, weights and emits fit the declaration of a table.
use Rattle.std.specs.Prelude.{◌≡◌, List, true, Some, is_some, slice_get}
use Rattle.sz_types.specs.Tables.{Declaration}
use Rattle.sz_types.specs.Types.{has_type, have_types}
use Rattle.sz_tabs.specs.Data.{EmitDatum, Weighted}
use Rattle.sz_tabs.specs.Rows.{brought_by}

-- the value has the table's element type, and a weight is there exactly where the table has weights
pub record Fits (table : Declaration) (brought : Weighted) : Type 0 where
  pub element : has_type brought.value table.element ≡ true
  pub weight : is_some brought.weight ≡ is_some table.weight

-- the emit goes to one of these tables, its indexes have that table's index types in order, and its value and weight
-- fit it
pub record IsEmitTo (tables : List Declaration) (emit : EmitDatum) : Type 0 where
  pub table : Declaration
  pub declared : slice_get tables emit.table ≡ Some table
  pub indexes : have_types emit.indexes table.indexes ≡ true
  pub fits : Fits table (brought_by emit)
