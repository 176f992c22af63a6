-- A file that is joined to the last group while it is read.
use Rattle.std.specs.Prelude.{◌≡◌, ◌≢◌, ℕ, ◌+◌, ◌≤◌, ⊤, Some, List, [], ◌∷◌, ◌++◌}
use Rattle.sz_save_format.specs.Saved.{SavedState, most_bound, Saves}
use Rattle.sz_save_format.specs.DecodingRows.{head_at}
use Rattle.sz_merge.specs.declared.error.MergeError.{MergeError}
use Rattle.sz_merge.specs.declared.error.MergeError.TheVariants.{BadTables, OtherTables, TablesLimit, NoMemory}
use Rattle.sz_merge.specs.Together.{bounds_of, HasSameTables}
use Rattle.sz_merge.specs.Groups.{Regroups}

-- there is a group, and the file's bound is low enough
pub record FitsBehind (groups : List SavedState) (bytes : List ℕ) : Type 0 where
  pub some : groups ≢ []
  pub low : (bound : ℕ) (rest : List ℕ) → head_at bytes ≡ Some (bound, rest) → bounds_of groups + bound ≤ most_bound

-- the file was added to the groups
pub record AddsRead (groups : List SavedState) (bytes : List ℕ) (now : List SavedState) : Type 0 where
  pub state : SavedState
  pub saves : Saves bytes state
  pub behind : List ℕ
  pub head : head_at bytes ≡ Some (state.bound, behind)
  pub same : HasSameTables groups state
  pub regroups : Regroups (groups ++ state ∷ []) now

-- why the bytes of a file in which another declaration was found aren't joined
abbrev pub IsOtherOrBad : List ℕ → MergeError → Type 0
IsOtherOrBad bytes BadTables = (state : SavedState) → Saves bytes state → ⊥
IsOtherOrBad bytes OtherTables = (state : SavedState) × Saves bytes state
IsOtherOrBad bytes TablesLimit = ⊥
IsOtherOrBad bytes NoMemory = ⊤

-- why a file wasn't joined to a state
abbrev pub StopsLast : SavedState → List ℕ → MergeError → Type 0
StopsLast one bytes BadTables = (state : SavedState) → Saves bytes state → ⊥
StopsLast one bytes OtherTables = (state : SavedState) × Saves bytes state × (state.decls ≢ one.decls)
StopsLast one bytes TablesLimit = ⊥
StopsLast one bytes NoMemory = ⊤

-- why a file wasn't added to groups
abbrev pub StopsGroups : List SavedState → List ℕ → MergeError → Type 0
StopsGroups groups bytes BadTables = (state : SavedState) → Saves bytes state → ⊥
StopsGroups groups bytes OtherTables = (state : SavedState) × Saves bytes state × (HasSameTables groups state → ⊥)
StopsGroups groups bytes TablesLimit = ⊥
StopsGroups groups bytes NoMemory = ⊤
