-- The bytes of a table's declaration.
use Rattle.std.specs.Prelude.{◌≡◌, ℕ, true, ⊤, Option, Some, None, List, [], ◌∷◌, ◌++◌, length, flat_map}
use Rattle.std.specs.List.{AllByRecursion}
use Rattle.sz_types.specs.Data.{Shape}
use Rattle.sz_types.specs.Tables.{Declaration}
use Rattle.sz_types.specs.declared.table.TableKind.{TableKind}
use Rattle.sz_types.specs.declared.table.TableKind.TheVariants.{Sum, Maximum, Minimum, Set, Collection}
use Rattle.sz_core.specs.WellFormed.{is_allowed}
use Rattle.sz_flat.specs.Spelling.{length_bytes, counted_bytes, IsShort}
use Rattle.sz_save_format.specs.Names.{HasName}
use Rattle.sz_save_format.specs.Types.{type_bytes, IsSavedType}

-- the byte of a kind of table
abbrev pub kind_byte : TableKind → ℕ
kind_byte Sum = 0
kind_byte Maximum = 1
kind_byte Minimum = 2
kind_byte Set = 3
kind_byte Collection = 4

-- the number of types in 4 bytes, and then they
abbrev pub types_bytes : List Shape → List ℕ
types_bytes types = length_bytes (length types) ++ flat_map type_bytes types

-- 0 where there are no weights, else 1 and their type
abbrev pub weight_bytes : Option Shape → List ℕ
weight_bytes None = 0 ∷ []
weight_bytes (Some t) = 1 ∷ type_bytes t

-- the bytes of a declaration: its name, its kind, its limit in 4 bytes, and the types of its indexes, its elements
-- and its weights
abbrev pub declaration_bytes : Declaration → List ℕ
declaration_bytes table =
    counted_bytes table.name
    ++ (kind_byte table.kind ∷ (length_bytes table.limit
    ++ (types_bytes table.indexes ++ (type_bytes table.element ++ weight_bytes table.weight))))

-- the type of the weights, if there are any, can stand in a saved file
abbrev pub IsSavedWeight : Option Shape → Type 0
IsSavedWeight None = ⊤
IsSavedWeight (Some t) = IsSavedType t

-- the declaration can stand in a saved file: its names and types can, and its kind, limit, element and weight go
-- together
pub record IsSavedDeclaration (table : Declaration) : Type 0 where
  pub name : HasName table.name
  pub limit : IsShort table.limit
  pub few : IsShort (length table.indexes)
  pub indexes : AllByRecursion IsSavedType table.indexes
  pub element : IsSavedType table.element
  pub weight : IsSavedWeight table.weight
  pub allowed : is_allowed table ≡ true
