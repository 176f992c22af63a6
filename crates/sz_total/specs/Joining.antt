-- What a merge does to the aggregators of a table: first there is made room, and then each of the other side is taken.
use Rattle.std.specs.Prelude.{◌≡◌, ◌≤◌, ◌+◌, ℕ, List, [], ◌∷◌, ◌++◌, All, IfSome, IfNone, slice_get}
use Rattle.std.specs.List.{AllByRecursion}
use Rattle.std.specs.Map.{keys_of, values_of, lookup, set_value}
use Rattle.sz_types.specs.Tables.{Declaration}
use Rattle.sz_value.specs.Data.{Datum}
use Rattle.sz_tabs.specs.Data.{Weighted}
use Rattle.sz_tabs.specs.Rows.{compare_indexes, rows_of}
use Rattle.sz_tabs.specs.Sorting.{distinct}
use Rattle.sz_total.specs.Aggregates.{Family, sums, family_of, declaration_of, count_of, HasRoomFor, ChangesRoomAlone, IsJoined}
use Rattle.sz_total.specs.Entries.{Entries, same_indexes, rows_found, AreOfTable}
use Rattle.sz_total.specs.declared.aggregate.Aggregate.{Aggregate}

-- each aggregator is of the family
abbrev pub AreOf : Family → Entries → Type 0
AreOf family entries = All (λ (a : Aggregate). family_of a ≡ family) (values_of entries)

-- the aggregators of both sides are of one family
pub record AreAlike (entries others : Entries) : Type 0 where
  pub family : Family
  pub mine : AreOf family entries
  pub others_too : AreOf family others

-- nothing changed but the room of the aggregator under these indexes, if there is one
pub record GainsRoom (indexes : List Datum) (old new : Entries) : Type 0 where
  pub none : IfNone (lookup (same_indexes indexes) old) (new ≡ old)
  pub some : IfSome (lookup (same_indexes indexes) old)
      (λ own. (now : Aggregate) × ChangesRoomAlone own now × (new ≡ set_value (same_indexes indexes) old now))

-- the same index lists have the same rows, and what was kept to still is
pub record LooksTheSame (old new : Entries) : Type 0 where
  pub keys : keys_of new ≡ keys_of old
  pub rows : (indexes : List Datum) → rows_found new indexes ≡ rows_found old indexes
  pub still : (table : Declaration) (count : ℕ) → AreOfTable table count old → AreOfTable table count new
  pub families : (family : Family) → AreOf family old → AreOf family new

-- the first aggregator is a sum, if there is one
abbrev pub BeginsWithSum : Entries → Type 0
BeginsWithSum entries = IfSome (slice_get entries 0) (λ entry. family_of entry.1 ≡ sums)

-- the aggregator under these indexes has room for the other, if there is one
abbrev pub HasRoomUnder : Entries → List Datum × Aggregate → Type 0
HasRoomUnder entries other = IfSome (lookup (same_indexes other.0) entries) (λ own. HasRoomFor own other.1)

-- each aggregator has room for that of the other side
abbrev pub HaveRoomFor : Entries → Entries → Type 0
HaveRoomFor entries others = AllByRecursion (HasRoomUnder entries) others

-- the other is of the same table, and there is room for it
pub record MayTake (count : ℕ) (own other : Aggregate) : Type 0 where
  pub declared : declaration_of other ≡ declaration_of own
  pub few : count_of own + count_of other ≤ count
  pub room : HasRoomFor own other

-- the aggregator under these indexes may take the other, if there is one
abbrev pub MayTakeUnder : ℕ → Entries → List Datum × Aggregate → Type 0
MayTakeUnder count entries other = IfSome (lookup (same_indexes other.0) entries) (λ own. MayTake count own other.1)

-- the other aggregator is joined with that under its indexes, or stands last where there is none
pub record TakesOne (indexes : List Datum) (other : Aggregate) (old new : Entries) : Type 0 where
  pub none : IfNone (lookup (same_indexes indexes) old) (new ≡ old ++ (indexes, other) ∷ [])
  pub some : IfSome (lookup (same_indexes indexes) old)
      (λ own. (now : Aggregate) × IsJoined own other now × (new ≡ set_value (same_indexes indexes) old now))

-- each aggregator may take that of the other side
abbrev pub AreReady : ℕ → Entries → Entries → Type 0
AreReady count entries others = AllByRecursion (MayTakeUnder count entries) others

-- the index lists are those of both sides; where the rows of each are those of some emits, the new ones are those of
-- both; and each aggregator is one of the table
pub record TakesAll (table : Declaration) (count : ℕ) (others old new : Entries) : Type 0 where
  pub indexes : distinct compare_indexes (keys_of new) ≡ distinct compare_indexes (keys_of old ++ keys_of others)
  pub rows : (indexes : List Datum) (front later : List Weighted) → rows_found old indexes ≡ rows_of table front
      → rows_found others indexes ≡ rows_of table later → rows_found new indexes ≡ rows_of table (front ++ later)
  pub still : AreOfTable table count new

-- all aggregators of the other side are taken, whichever table both sides are of
pub record JoinsEntries (others old new : Entries) : Type 0 where
  pub takes : (table : Declaration) (count : ℕ) → AreOfTable table count old → AreOfTable table count others
      → AreReady count old others → TakesAll table count others old new
