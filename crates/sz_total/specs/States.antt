-- What contracts see of the tables of a program, and of one of them.
use Rattle.std.specs.Prelude.{ℕ, List, [], slice_index_or}
use Rattle.sz_types.specs.Tables.{Declaration}
use Rattle.sz_total.specs.Tables.{Indexed}

-- the declarations, the number of emits, and the rows of each table
pub record TotalState : Type 0 where
  pub tables : List Declaration
  pub count : ℕ
  pub rows : List (List Indexed)

-- the declarations
abbrev pub declarations : TotalState → List Declaration
declarations s = s.tables

-- the number of emits
abbrev pub emit_count : TotalState → ℕ
emit_count s = s.count

-- the rows of the table with a number, none where there is no such table
abbrev pub shown : TotalState → ℕ → List Indexed
shown s table = slice_index_or s.rows table []
