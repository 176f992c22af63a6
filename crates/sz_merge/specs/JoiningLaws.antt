-- What joined tables hold, and that the order in which saved states are joined can't be seen in it.
use Rattle.std.specs.Prelude.{◌≡◌, ℕ, List, [], ◌∷◌, ◌++◌}
use Rattle.std.specs.List.Sorted.{IsPermutation}
use Rattle.sz_types.specs.Tables.{Declaration}
use Rattle.sz_tabs.specs.Data.{EmitDatum, Weighted}
use Rattle.sz_tabs.specs.Rows.{rows_of}
use Rattle.sz_total.specs.Tables.{table_rows}
use Rattle.sz_save_format.specs.Saved.{SavedState, CanBeSaved, Saves}
use Rattle.sz_save.specs.Joined.{JoinsTable, Joins, joined_rows}
pub use Rattle.sz_save.specs.Saving.{tables_from}

-- both states joined are this one, and it can be saved
pub record Gives (one other both : SavedState) : Type 0 where
  pub joins : Joins one other both
  pub can : CanBeSaved both

-- either of two states may be joined to the other
abbrev pub IsCommutative : Type 0
IsCommutative =
    (one other both back : SavedState) → CanBeSaved one → CanBeSaved other → Gives one other both
    → Gives other one back → both ≡ back

-- of three states either two may be joined first
abbrev pub IsAssociative : Type 0
IsAssociative =
    (first second third front back left right : SavedState) → CanBeSaved first → CanBeSaved second → CanBeSaved third
    → Gives first second front → Gives front third left → Gives second third back
    → Gives first back right → left ≡ right

-- how states are joined, two at a time, until one is left: states that are given, and what each step gives
pub data Joining : Type 0 where
  given : (state : SavedState) → Joining
  joined : (front back : Joining) (state : SavedState) → Joining

-- the state that is left
abbrev pub state_of : Joining → SavedState
state_of (given state) = state
state_of (joined front back state) = state

-- the states that are given, from the left
abbrev pub given_in : Joining → List SavedState
given_in (given state) = state ∷ []
given_in (joined front back state) = given_in front ++ given_in back

-- each state that is given can be saved, and each step gives what both of its sides are together
abbrev pub IsJoining : Joining → Type 0
IsJoining (given state) = CanBeSaved state
IsJoining (joined front back state) = IsJoining front × IsJoining back × Gives (state_of front) (state_of back) state

-- the same states are one state together, in whatever order they are given and whichever two are joined first
abbrev pub ForgetsOrder : Type 0
ForgetsOrder =
    (first second : Joining) → IsJoining first → IsJoining second → IsPermutation (given_in first) (given_in second)
    → state_of first ≡ state_of second

-- and so they have the same bytes
abbrev pub HasOneSpelling : Type 0
HasOneSpelling =
    (first second : Joining) (bytes others : List ℕ) → IsJoining first → IsJoining second
    → IsPermutation (given_in first) (given_in second)
    → Saves bytes (state_of first) → Saves others (state_of second) → bytes ≡ others

-- the rows of what emits bring and those of what later emits bring are, joined, the rows of what all of them bring
abbrev pub JoinsRows : Type 0
JoinsRows =
    (table : Declaration) (front later : List Weighted)
    → joined_rows table.kind table.limit (rows_of table front) (rows_of table later) ≡ rows_of table (front ++ later)

-- and so it is with the tables of emits
abbrev pub JoinsTables : Type 0
JoinsTables =
    (number : ℕ) (table : Declaration) (front later : List EmitDatum)
    → JoinsTable table (table_rows number table front) (table_rows number table later)
    (table_rows number table (front ++ later))

-- the state holds the tables of the emits
abbrev pub Holds : SavedState → List EmitDatum → Type 0
Holds saved emits = saved.tables ≡ tables_from 0 saved.decls emits

-- the states that are given hold the tables of these emits, one after the other from the left
abbrev pub HoldInTurn : Joining → List EmitDatum → Type 0
HoldInTurn (given state) emits = Holds state emits
HoldInTurn (joined front back state) emits =
    (first later : List EmitDatum) × (emits ≡ first ++ later) × HoldInTurn front first × HoldInTurn back later

-- states of parts of the emits are together the state of all of them, however they are joined and in whatever order
-- the emits came
abbrev pub AddsEmits : Type 0
AddsEmits =
    (joining : Joining) (all : SavedState) (emits others : List EmitDatum) → IsJoining joining
    → all.decls ≡ (state_of joining).decls → all.bound ≡ (state_of joining).bound → HoldInTurn joining emits
    → IsPermutation emits others → Holds all others → state_of joining ≡ all
