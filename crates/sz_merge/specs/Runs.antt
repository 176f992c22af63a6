-- The laws of what is saved of runs of one program.
use Rattle.std.specs.Prelude.{◌≡◌, ℕ, ◌+◌, List, [], ◌∷◌, ◌++◌, map}
use Rattle.std.specs.List.Sorted.{IsPermutation}
use Rattle.sz_types.specs.Tables.{Declaration}
use Rattle.sz_tabs.specs.Data.{EmitDatum}
use Rattle.sz_print.specs.Tables.{lists_text, tables_text}
use Rattle.sz_save_format.specs.Saved.{SavedState, Saves}
use Rattle.sz_save.specs.Saving.{state_of_emits}
use Rattle.sz_merge.specs.JoiningLaws.{Joining, state_of, given_in, IsJoining}

-- what a run brings to the tables of its program: its emits, and a bound on their number
pub record Run : Type 0 where
  pub bound : ℕ
  pub emits : List EmitDatum

-- what is saved of a run
abbrev pub saved_of : List Declaration → Run → SavedState
saved_of decls run = state_of_emits run.bound decls run.emits

-- what runs bring one after the other: all their emits, with their bounds added
abbrev pub together : List Run → Run
together [] = record { bound = 0; emits = [] }
together (run ∷ runs) = record { bound = run.bound + (together runs).bound; emits = run.emits ++ (together runs).emits }

-- one run brings what several bring, in any order
pub record BringsAll (runs : List Run) (one : Run) : Type 0 where
  pub bound : (together runs).bound ≡ one.bound
  pub emits : IsPermutation (together runs).emits one.emits

-- what was saved of runs was joined, two states at a time and whichever first, until one was left; and one run brings
-- all that they bring
pub record AreJoined (decls : List Declaration) (runs : List Run) (one : Run) (joining : Joining) : Type 0 where
  pub given : given_in joining ≡ map (saved_of decls) runs
  pub is : IsJoining joining
  pub all : BringsAll runs one

-- what is left is what is saved of that one run
abbrev pub JoinsRuns : Type 0
JoinsRuns =
    (decls : List Declaration) (runs : List Run) (one : Run) (joining : Joining) → AreJoined decls runs one joining
    → state_of joining ≡ saved_of decls one

-- so its bytes are those of the one run
abbrev pub HasBytesOfOne : Type 0
HasBytesOfOne =
    (decls : List Declaration) (runs : List Run) (one : Run) (joining : Joining) (bytes others : List ℕ)
    → AreJoined decls runs one joining
    → Saves bytes (state_of joining) → Saves others (saved_of decls one) → bytes ≡ others

-- and so is its text
abbrev pub HasTextOfOne : Type 0
HasTextOfOne =
    (decls : List Declaration) (runs : List Run) (one : Run) (joining : Joining) → AreJoined decls runs one joining
    → lists_text (state_of joining).decls (state_of joining).tables ≡ tables_text decls one.emits
