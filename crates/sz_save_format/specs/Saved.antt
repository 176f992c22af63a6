-- The bytes of a saved file.
use Rattle.std.specs.Prelude.{◌≡◌, ℕ, ◌^◌, ◌≤◌, List, ◌++◌, length, flat_map, zip, codes}
use Rattle.std.specs.List.{AllByRecursion}
use Rattle.sz_types.specs.Tables.{Declaration}
use Rattle.sz_flat.specs.Spelling.{length_bytes, IsShort}
use Rattle.sz_total.specs.Tables.{Indexed}
use Rattle.sz_save_format.specs.Declarations.{declaration_bytes, IsSavedDeclaration}
use Rattle.sz_save_format.specs.Entries.{count_bytes, entries_bytes, AreSavedEntries}

-- what a saved file holds: no more emits were counted than the bound says; the declarations; and the rows of each
-- table, by index list
pub record SavedState : Type 0 where
  pub bound : ℕ
  pub decls : List Declaration
  pub tables : List (List Indexed)

-- the greatest bound
abbrev pub most_bound : ℕ
most_bound = 2 ^ 63

-- how a saved file begins
abbrev pub mark : List ℕ
mark = codes "SZTABLE1"

-- the bytes of a table: those of its declaration, and then those of what it holds
abbrev pub table_bytes : Declaration × List Indexed → List ℕ
table_bytes table = declaration_bytes table.0 ++ entries_bytes table.0.kind table.1

-- each declaration with what its table holds
abbrev pub tables_of : SavedState → List (Declaration × List Indexed)
tables_of saved = zip saved.decls saved.tables

-- the bytes of a saved file: its mark, the bound in 8 bytes, the number of tables in 4, and the tables
abbrev pub saved_bytes : SavedState → List ℕ
saved_bytes saved =
    mark ++ (count_bytes saved.bound ++ (length_bytes (length saved.decls) ++ flat_map table_bytes (tables_of saved)))

-- the table can stand in a saved file with this bound
pub record IsSavedTable (bound : ℕ) (table : Declaration × List Indexed) : Type 0 where
  pub declaration : IsSavedDeclaration table.0
  pub entries : AreSavedEntries bound table.0 table.1

-- all of it can be saved
pub record CanBeSaved (saved : SavedState) : Type 0 where
  pub bound : saved.bound ≤ most_bound
  pub few : IsShort (length saved.decls)
  pub as_many : length saved.tables ≡ length saved.decls
  pub each : AllByRecursion (IsSavedTable saved.bound) (tables_of saved)

-- the bytes are those of what is saved, and nothing follows
pub record Saves (bytes : List ℕ) (saved : SavedState) : Type 0 where
  pub can : CanBeSaved saved
  pub is : bytes ≡ saved_bytes saved
