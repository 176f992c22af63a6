-- What a run saves: the declarations of its tables, what they show, and a bound on the number of emits.
use Rattle.std.specs.Prelude.{ℕ, suc, Bool, true, ◌&&◌, nat_le, List, [], ◌∷◌, length}
use Rattle.std.specs.List.{AllByRecursion}
use Rattle.sz_types.specs.Data.{Shape}
use Rattle.sz_types.specs.Tables.{Declaration}
use Rattle.sz_flat.specs.Spelling.{IsShort}
use Rattle.sz_tabs.specs.Data.{EmitDatum}
use Rattle.sz_total.specs.States.{TotalState, shown}
use Rattle.sz_total.specs.Tables.{Indexed, table_rows}
use Rattle.sz_save_format.specs.Declarations.{IsSavedDeclaration}
use Rattle.sz_save_format.specs.Saved.{SavedState}
use Rattle.sz_save_format.specs.Types.{height, most_height}

-- the declarations have a spelling: each can stand in a saved file, and so can their number
pub record HaveSpelling (decls : List Declaration) : Type 0 where
  pub few : IsShort (length decls)
  pub each : AllByRecursion IsSavedDeclaration decls

-- whether each of the types has no more levels than a saved file can hold
abbrev pub are_low : List Shape → Bool
are_low [] = true
are_low (t ∷ ts) = nat_le (height t) most_height && are_low ts

-- whether the types of the table's elements and indexes have no more
abbrev pub is_low : Declaration → Bool
is_low table = are_low (table.element ∷ table.indexes)

-- whether those of each of the tables have no more
abbrev pub are_all_low : List Declaration → Bool
are_all_low [] = true
are_all_low (d ∷ ds) = is_low d && are_all_low ds

-- the rows of each of the declared tables, of which the first has this number, where the table with a number shows
-- these rows
abbrev pub shown_from : ℕ → List Declaration → (ℕ → List Indexed) → List (List Indexed)
shown_from number [] rows = []
shown_from number (d ∷ ds) rows = rows number ∷ shown_from (suc number) ds rows

-- what is saved of a total: its declarations and what each of its tables shows, with a bound on the number of its emits
abbrev pub state_shown : ℕ → TotalState → SavedState
state_shown bound total = record {
  bound = bound;
  decls = total.tables;
  tables = shown_from 0 total.tables (shown total);
}

-- the tables of emits, numbered from a number on
abbrev pub tables_from : ℕ → List Declaration → List EmitDatum → List (List Indexed)
tables_from number [] emits = []
tables_from number (table ∷ tables) emits = table_rows number table emits ∷ tables_from (suc number) tables emits

-- what is saved of emits to declared tables, with a bound on their number
abbrev pub state_of_emits : ℕ → List Declaration → List EmitDatum → SavedState
state_of_emits bound decls emits = record { bound = bound; decls = decls; tables = tables_from 0 decls emits }
