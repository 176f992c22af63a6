-- A saved file that is joined to what is kept, while it is read.
use Rattle.std.specs.Prelude.{◌≡◌, ◌≢◌, ℕ, ◌*◌, ◌+◌, ◌^◌, ◌≤◌, ⊤, Bool, true, Option, Some, None, List, [], ◌∷◌, ◌++◌, length, map, zip, drop}
use Rattle.std.specs.List.{AllByRecursion}
use Rattle.std.specs.Ordering.{is_lt}
use Rattle.sz_types.specs.Tables.{Declaration}
use Rattle.sz_types.specs.declared.table.TableKind.{TableKind}
use Rattle.sz_types.specs.declared.table.TableKind.TheVariants.{Sum, Maximum, Minimum, Set, Collection}
use Rattle.sz_value.specs.Data.{Datum}
use Rattle.sz_flat.specs.Spelling.{IsShort}
use Rattle.sz_tabs.specs.Rows.{compare_indexes}
use Rattle.sz_total.specs.Tables.{Indexed}
use Rattle.sz_save_format.specs.Entries.{components}
use Rattle.sz_save_format.specs.Decoding.{counted_at}
use Rattle.sz_save_format.specs.DecodingRows.{head_at, entries_at, table_at}
use Rattle.sz_save_format.specs.Saved.{SavedState, Saves, CanBeSaved}
use Rattle.sz_save.specs.Joined.{Joins}
use Rattle.sz_save.specs.declared.stopped.ReadJoinError.{ReadJoinError}
use Rattle.sz_save.specs.declared.stopped.ReadJoinError.TheVariants.{NotSaved, Other, NoMemory}
use Rattle.sz_save.specs.Walk.{joined_entries, joined_tables, HasSums, HasCountedRows, AreCounted}

-- the bytes are those of a state, and this is what both are together
pub record JoinsRead (one : SavedState) (bytes : List ℕ) (both : SavedState) : Type 0 where
  pub state : SavedState
  pub saves : Saves bytes state
  pub behind : List ℕ
  pub head : head_at bytes ≡ Some (state.bound, behind)
  pub joins : Joins one state both
  pub can : CanBeSaved both

-- the index list of the last, if there is one
abbrev pub last_indexes : List Indexed → Option (List Datum)
last_indexes [] = None
last_indexes (e ∷ []) = Some e.indexes
last_indexes (e ∷ f ∷ es) = last_indexes (f ∷ es)

-- whether an index list is above another, if there is one
abbrev pub is_above : Option (List Datum) → List Datum → Bool
is_above None later = true
is_above (Some earlier) later = is_lt (compare_indexes earlier later)

-- of a table of sums each row that is kept has `count` sums, none of them further from 0 than `most`; of other kinds
-- nothing is asked
abbrev pub KeepSums : TableKind → ℕ → ℕ → List Indexed → Type 0
KeepSums Sum count most kept = AllByRecursion (HasSums count most) kept
KeepSums Maximum count most kept = ⊤
KeepSums Minimum count most kept = ⊤
KeepSums Set count most kept = ⊤
KeepSums Collection count most kept = ⊤

-- The walk over what is kept goes on: what was joined before, and what is joined of these index lists and any others,
-- is what is joined now and what is joined of those that are left and the same others.
pub record GoesOn (kind : TableKind) (limit : ℕ) (ones : List Indexed) (joined kept : List Indexed)
    (others : List Indexed)
    (now left : List Indexed) : Type 0 where
  pub is : (more : List Indexed) → joined ++ joined_entries kind limit kept (ones ++ more)
      ≡ now ++ joined_entries kind limit left (others ++ more)
  pub cut : ℕ
  pub dropped : left ≡ drop cut kept
  pub few : AllByRecursion HasCountedRows joined → AllByRecursion HasCountedRows now

-- what a table holds was read, and joined to what is kept
pub record ReadsJoined (bound : ℕ) (table : Declaration) (kept : List Indexed) (flat : List ℕ) (joined : List Indexed)
    (rest : List ℕ) : Type 0 where
  pub entries : List Indexed
  pub found : entries_at bound table flat ≡ Some (entries, rest)
  pub is : joined ≡ joined_entries table.kind table.limit kept entries
  pub counted : AreCounted joined

-- the same with the declaration in front
pub record ReadsTable (bound : ℕ) (table : Declaration) (kept : List Indexed) (flat : List ℕ) (joined : List Indexed)
    (rest : List ℕ) : Type 0 where
  pub entries : List Indexed
  pub found : table_at bound flat ≡ Some ((table, entries), rest)
  pub is : joined ≡ joined_entries table.kind table.limit kept entries
  pub counted : AreCounted joined

-- in front there is no table with this declaration: one with another, or perhaps none at all
abbrev pub IsOtherTable : ℕ → Declaration → List ℕ → Type 0
IsOtherTable bound table flat =
    (read : Declaration × List Indexed) (rest : List ℕ) → table_at bound flat ≡ Some (read, rest) → read.0 ≢ table

-- another file can be joined to what is kept of a table, whatever it holds
pub record CanTakeMore (bound : ℕ) (table : Declaration) (kept : List Indexed) : Type 0 where
  pub low : bound ≤ 2 ^ 63
  pub short : IsShort table.limit
  pub most : ℕ
  pub sums : KeepSums table.kind (components table.element) most kept
  pub few : most + bound * 2 ^ 63 ≤ 2 ^ 126

-- the same of each table
abbrev pub CanTakeAll : ℕ → List Declaration → List (List Indexed) → Type 0
CanTakeAll bound [] [] = ⊤
CanTakeAll bound (d ∷ ds) (t ∷ ts) = CanTakeMore bound d t × CanTakeAll bound ds ts
CanTakeAll bound _ _ = ⊥

-- why the table in front wasn't read
abbrev pub StopsTable : ℕ → Declaration → List ℕ → ReadJoinError → Type 0
StopsTable bound table flat NotSaved = table_at bound flat ≡ None
StopsTable bound table flat Other = IsOtherTable bound table flat
StopsTable bound table flat NoMemory = ⊤

-- the tables were read, and joined to what is kept
pub record ReadsTables (bound : ℕ) (decls : List Declaration) (kept : List (List Indexed)) (flat : List ℕ)
    (joined : List (List Indexed)) (rest : List ℕ) : Type 0 where
  pub tables : List (List Indexed)
  pub as_many : length tables ≡ length decls
  pub found : counted_at (table_at bound) flat ≡ Some (zip decls tables, rest)
  pub is : joined ≡ joined_tables decls kept tables
  pub counted : AllByRecursion AreCounted joined

-- in front there are no tables with these declarations: others, or perhaps none at all
abbrev pub IsOtherTables : ℕ → List Declaration → List ℕ → Type 0
IsOtherTables bound decls flat =
    (tables : List (Declaration × List Indexed)) (rest : List ℕ)
    → counted_at (table_at bound) flat ≡ Some (tables, rest) → map (λ t. t.0) tables ≢ decls

-- why the tables weren't read: there are none, or none that have these declarations
abbrev pub StopsTables : ℕ → List Declaration → List ℕ → ReadJoinError → Type 0
StopsTables bound decls flat NotSaved = counted_at (table_at bound) flat ≡ None
StopsTables bound decls flat Other = IsOtherTables bound decls flat
StopsTables bound decls flat NoMemory = ⊤

-- why the file wasn't joined: the bytes are those of no state; or those of none that has the declarations of what is
-- kept, and perhaps of none at all
abbrev pub StopsRead : SavedState → List ℕ → ReadJoinError → Type 0
StopsRead one bytes NotSaved = (state : SavedState) → Saves bytes state → ⊥
StopsRead one bytes Other = (state : SavedState) → Saves bytes state → state.decls ≢ one.decls
StopsRead one bytes NoMemory = ⊤
