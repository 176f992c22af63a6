-- What contracts see of a table's declaration.
use Rattle.std.specs.Prelude.{ℕ, List, Option}
use Rattle.sz_types.specs.Data.{Shape}
use Rattle.sz_types.specs.declared.table.TableKind.{TableKind}

-- a table's declaration as plain data: the bytes of its name, its kind, its limit, and the types of its indexes, of its
-- elements, and of their weights, if they have any
pub record Declaration : Type 0 where
  pub name : List ℕ
  pub kind : TableKind
  pub limit : ℕ
  pub indexes : List Shape
  pub element : Shape
  pub weight : Option Shape
