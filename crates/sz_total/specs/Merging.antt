-- What a merge does to all tables: first there is made room in each, and then each takes that of the other side.
use Rattle.std.specs.Prelude.{◌≡◌, ℕ, ◌+◌, ◌^◌, ◌≤◌, Some, List, map, length, set, slice_get}
use Rattle.sz_types.specs.Tables.{Declaration}
use Rattle.sz_total.specs.OneTable.{TableState, table_shown, AreTables, ChangesRoomAlone, HasRoomToMerge, JoinsTable}

-- the declarations of tables
abbrev pub tables_of : List TableState → List Declaration
tables_of states = map (λ (s : TableState). s.table) states

-- both sides have the same declarations
abbrev pub AreMatched : List TableState → List TableState → Type 0
AreMatched states others = tables_of others ≡ tables_of states

-- the tables of both sides at the place have one declaration
pub record IsMatchedAt (at : ℕ) (states others : List TableState) : Type 0 where
  pub state : TableState
  pub there : slice_get states at ≡ Some state
  pub other : TableState
  pub other_there : slice_get others at ≡ Some other
  pub same : other.table ≡ state.table

-- the table at the place has room for that of the other side
pub record HasRoomAt (at : ℕ) (states others : List TableState) : Type 0 where
  pub state : TableState
  pub there : slice_get states at ≡ Some state
  pub other : TableState
  pub other_there : slice_get others at ≡ Some other
  pub room : HasRoomToMerge state other

-- nothing changed but the room of the table at the place
pub record ChangesRoomAt (at : ℕ) (old new : List TableState) : Type 0 where
  pub before : TableState
  pub after : TableState
  pub there : slice_get old at ≡ Some before
  pub changes : ChangesRoomAlone before after
  pub now : new ≡ set old at after

-- nothing changed but the room of each table
pub record ChangeRoomAlone (old new : List TableState) : Type 0 where
  pub declared : tables_of new ≡ tables_of old
  pub rows : map table_shown new ≡ map table_shown old
  pub still : (tables : List Declaration) (count : ℕ) → AreTables tables count old → AreTables tables count new

-- each table has room for that of the other side
abbrev pub HaveRoomToMerge : List TableState → List TableState → Type 0
HaveRoomToMerge states others =
    (at : ℕ) (own other : TableState) → slice_get states at ≡ Some own → slice_get others at ≡ Some other
    → HasRoomToMerge own other

-- each table has few enough emits to be merged with that of the other side
abbrev pub AreFew : List TableState → List TableState → Type 0
AreFew states others =
    (at : ℕ) (own other : TableState) → slice_get states at ≡ Some own → slice_get others at ≡ Some other
    → own.count + other.count ≤ 2 ^ 63

-- the other table may be merged with that at the place
pub record MayMergeAt (at : ℕ) (other : TableState) (states : List TableState) : Type 0 where
  pub state : TableState
  pub there : slice_get states at ≡ Some state
  pub same : other.table ≡ state.table
  pub few : state.count + other.count ≤ 2 ^ 63
  pub room : HasRoomToMerge state other

-- the other table is merged with that at the place
pub record MergesAt (at : ℕ) (other : TableState) (old new : List TableState) : Type 0 where
  pub before : TableState
  pub after : TableState
  pub there : slice_get old at ≡ Some before
  pub joins : JoinsTable before other after
  pub now : new ≡ set old at after

-- each table is merged with that of the other side
pub record JoinTables (old others new : List TableState) : Type 0 where
  pub as_many : length new ≡ length old
  pub joined : (at : ℕ) (own other : TableState) → slice_get old at ≡ Some own → slice_get others at ≡ Some other
      → (now : TableState) × (slice_get new at ≡ Some now) × JoinsTable own other now
