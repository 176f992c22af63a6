-- Files that are joined one after the other, and why one of them can't be.
use Rattle.std.specs.Prelude.{ℕ, ◌+◌, ◌<◌, ◌≤◌, ⊤, List}
use Rattle.sz_save_format.specs.Saved.{SavedState, most_bound, Saves}
use Rattle.sz_save_format.specs.declared.error.SavedError.{SavedError}
use Rattle.sz_save_format.specs.declared.error.SavedError.TheVariants as reading
use Rattle.sz_merge.specs.declared.error.MergeError.{MergeError}
use Rattle.sz_merge.specs.declared.error.MergeError.TheVariants.{BadTables, OtherTables, TablesLimit, NoMemory}
use Rattle.sz_merge.specs.Together.{bounds_of, HasSameTables}

-- the bytes of a file are those of the state, which can be joined to those before it
pub record Follows (before : List SavedState) (bytes : List ℕ) (state : SavedState) : Type 0 where
  pub saves : Saves bytes state
  pub same : HasSameTables before state
  pub low : bounds_of before + state.bound ≤ most_bound

-- the state can't be joined to those before it: its declarations are others; or else the bounds are together too large
abbrev pub IsUnfit : List SavedState → SavedState → MergeError → Type 0
IsUnfit before state OtherTables = HasSameTables before state → ⊥
IsUnfit before state TablesLimit = HasSameTables before state × (most_bound < bounds_of before + state.bound)
IsUnfit before state _ = ⊥

-- The file of these bytes can't be joined to those before it, for this cause: it is no saved file; or else its state
-- can't. Want of memory says nothing of the file.
abbrev pub IsStopped : List SavedState → List ℕ → MergeError → Type 0
IsStopped before bytes BadTables = (state : SavedState) → Saves bytes state → ⊥
IsStopped before bytes OtherTables = (state : SavedState) × Saves bytes state × IsUnfit before state OtherTables
IsStopped before bytes TablesLimit = (state : SavedState) × Saves bytes state × IsUnfit before state TablesLimit
IsStopped before bytes NoMemory = ⊤

-- why a file that can't be read can't be joined
abbrev pub error_of_reading : SavedError → MergeError
error_of_reading reading.NotSaved = BadTables
error_of_reading reading.NoMemory = NoMemory
