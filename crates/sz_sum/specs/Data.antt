-- What contracts see of a sum.
use Rattle.std.specs.Prelude.{ℕ, ℤ, if◌then◌else◌, nat_lt, None, List, [], ◌∷◌, ◌+◌}
use Rattle.sz_types.specs.Data.{Shape, FieldShapes, no_fields, with_field}
use Rattle.sz_types.specs.Tables.{Declaration}
use Rattle.sz_tabs.specs.Data.{RowDatum, sums}

-- a table's declaration, the number of the emits to it under one index list, and the sums of their values by component
pub record Summed : Type 0 where
  pub table : Declaration
  pub count : ℕ
  pub numbers : List ℤ

-- the row of the sums, if there was an emit
abbrev pub rows_of_sum : Summed → List RowDatum
rows_of_sum s = if nat_lt 0 s.count then record { shown = sums s.numbers; weight = None } ∷ [] else []

-- the number of fields
abbrev pub field_count : FieldShapes → ℕ
field_count no_fields = 0
field_count (with_field f fs) = field_count fs + 1

-- how many components the values of a type have
abbrev pub width : Shape → ℕ
width Shape.int = 1
width (Shape.tuple fields) = field_count fields
width (Shape.proto fields) = field_count fields
width _ = 0
