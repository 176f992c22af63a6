-- What contracts see of one table, and what one emit more does to it.
use Rattle.std.specs.Prelude.{◌≡◌, ◌⊎◌, ℕ, ◌+◌, ◌^◌, ◌<◌, ◌≤◌, Some, List, [], ◌∷◌, ◌++◌, All, length, map, set, slice_get}
use Rattle.sz_types.specs.Tables.{Declaration}
use Rattle.sz_tabs.specs.Data.{EmitDatum}
use Rattle.sz_tabs.specs.Fitting.{Fits}
use Rattle.sz_tabs.specs.Rows.{brought_by}
use Rattle.sz_total.specs.Tables.{Indexed, table_rows}
use Rattle.sz_total.specs.Entries.{rows_in_order}
use Rattle.sz_total.specs.Parts.{PartState, empty_part, entries_of, ArePlaced, ArePartsOf, AreSettled, HavePartRoom}
use Rattle.sz_total.specs.Weights.{HasItsWeights}
use Rattle.sz_total.specs.States.{TotalState}
use Rattle.sz_total.specs.Origin.{ComesFromEmits}

-- a table's declaration, the number of emits to it, and its parts
pub record TableState : Type 0 where
  pub table : Declaration
  pub count : ℕ
  pub parts : List PartState

-- its rows
abbrev pub table_shown : TableState → List Indexed
table_shown s = rows_in_order (entries_of s.parts)

-- the table has its weights, and one part or 16; each index list lies in its part, and nothing waits; the aggregators
-- are of the table
pub record IsKept (table : Declaration) (count : ℕ) (parts : List PartState) : Type 0 where
  pub weights : HasItsWeights table
  pub one_or_many : (length parts ≡ 1) ⊎ (length parts ≡ 16)
  pub placed : ArePlaced parts
  pub aggregates : ArePartsOf table count parts
  pub settled : AreSettled parts

-- where the old rows are those of a list of emits, the new rows are those of one emit more
pub record GainsEmit (old new : TableState) (emit : EmitDatum) : Type 0 where
  pub same_table : new.table ≡ old.table
  pub one_more : new.count ≡ old.count + 1
  pub rows : (emits : List EmitDatum) → table_shown old ≡ table_rows emit.table old.table emits
      → table_shown new ≡ table_rows emit.table old.table (emits ++ emit ∷ [])

-- the same is shown, whatever room and parts there are now
pub record ChangesRoomAlone (old new : TableState) : Type 0 where
  pub same_table : new.table ≡ old.table
  pub same_count : new.count ≡ old.count
  pub rows : table_shown new ≡ table_shown old

-- the other table has as many parts, and each part has room for that with its number
pub record HasRoomToMerge (own other : TableState) : Type 0 where
  pub as_many : length other.parts ≡ length own.parts
  pub parts : HavePartRoom own.parts other.parts

-- where the rows of both are those of lists of emits to the table with a number, the new rows are those of both lists
pub record JoinsTable (old other new : TableState) : Type 0 where
  pub same_table : new.table ≡ old.table
  pub both_counts : new.count ≡ old.count + other.count
  pub rows : (number : ℕ) (front later : List EmitDatum) → table_shown old ≡ table_rows number old.table front
      → table_shown other ≡ table_rows number old.table later
      → table_shown new ≡ table_rows number old.table (front ++ later)

-- a declared table before any emit
abbrev pub new_table : Declaration → TableState
new_table table = record { table = table; count = 0; parts = empty_part ∷ [] }

-- the emit fits the table with its number, which has room for it
pub record HasRoomFor (emit : EmitDatum) (states : List TableState) : Type 0 where
  pub state : TableState
  pub there : slice_get states emit.table ≡ Some state
  pub fits : Fits state.table (brought_by emit)
  pub room : state.count < 2 ^ 63

-- the table with the emit's number gains the emit, and the others stay
pub record GainsAt (emit : EmitDatum) (old new : List TableState) : Type 0 where
  pub before : TableState
  pub after : TableState
  pub there : slice_get old emit.table ≡ Some before
  pub gains : GainsEmit before after emit
  pub now : new ≡ set old emit.table after

-- the tables are those that are declared, and each has at most so many emits
pub record AreTables (tables : List Declaration) (count : ℕ) (states : List TableState) : Type 0 where
  pub declared : map (λ (s : TableState). s.table) states ≡ tables
  pub few : All (λ (s : TableState). s.count ≤ count) states

-- what contracts see of all tables
abbrev pub state_of : List Declaration → ℕ → List TableState → TotalState
state_of tables count states = record { tables = tables; count = count; rows = map table_shown states }

-- the tables are those that are declared, and what they show comes from emits that fit
pub record IsTotal (tables : List Declaration) (count : ℕ) (states : List TableState) : Type 0 where
  pub are : AreTables tables count states
  pub come : ComesFromEmits (state_of tables count states)
