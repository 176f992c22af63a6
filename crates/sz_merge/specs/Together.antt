-- What saved states hold together.
use Rattle.std.specs.Prelude.{◌≡◌, ℕ, ◌+◌, ◌≤◌, ⊤, List, [], ◌∷◌}
use Rattle.std.specs.List.{AllByRecursion}
use Rattle.sz_types.specs.Tables.{Declaration}
use Rattle.sz_save_format.specs.Saved.{SavedState, most_bound}
use Rattle.sz_merge.specs.JoiningLaws.{Joining, given_in, state_of, IsJoining}

-- These states are together this one: they were joined, two at a time, until it was left. Which two are joined first
-- makes no difference, nor does the order of the states.
pub record AreTogether (states : List SavedState) (all : SavedState) : Type 0 where
  pub joining : Joining
  pub is : IsJoining joining
  pub given : given_in joining ≡ states
  pub left : state_of joining ≡ all

-- the bounds added
abbrev pub bounds_of : List SavedState → ℕ
bounds_of [] = 0
bounds_of (state ∷ states) = state.bound + bounds_of states

-- the state has the declarations of the first of those before it, if there are any
abbrev pub HasSameTables : List SavedState → SavedState → Type 0
HasSameTables [] state = ⊤
HasSameTables (first ∷ more) state = state.decls ≡ first.decls

-- all of these states have these declarations
abbrev pub HaveTables : List Declaration → List SavedState → Type 0
HaveTables decls states = AllByRecursion (λ (state : SavedState). state.decls ≡ decls) states

-- all states have the declarations of the first
abbrev pub HaveSameTables : List SavedState → Type 0
HaveSameTables [] = ⊤
HaveSameTables (first ∷ more) = HaveTables first.decls more

-- the states can be joined: they have the same declarations, and their bounds together aren't too large
pub record CanBeTogether (states : List SavedState) : Type 0 where
  pub same : HaveSameTables states
  pub low : bounds_of states ≤ most_bound
