-- The aggregator of a table of any kind, as its contracts see it.
use Rattle.std.specs.Prelude.{◌≡◌, ◌*◌, ◌^◌, ⊤, ℕ, List}
use Rattle.sz_types.specs.Tables.{Declaration}
use Rattle.sz_types.specs.declared.table.TableKind.{TableKind}
use Rattle.sz_types.specs.declared.table.TableKind.TheVariants as kinds
use Rattle.sz_tabs.specs.Data.{RowDatum}
use Rattle.sz_tabs.specs.Aggregating.{Joins}
use Rattle.sz_tabs.specs.Bounds.{AreWithin}
use Rattle.sz_sum.specs.Data.{rows_of_sum}
use Rattle.sz_extreme.specs.Data.{rows_of_extremes, HasRoomFor as HasExtremeRoomFor}
use Rattle.sz_members.specs.Data.{rows_of_members, HasRoomFor as HasMembersRoomFor}
use Rattle.sz_total.specs.declared.aggregate.Aggregate.{Aggregate}
use Rattle.sz_total.specs.declared.aggregate.Aggregate.TheVariants.{Sum, Extreme, Members}

-- the declaration of its table
abbrev pub declaration_of : Aggregate → Declaration
declaration_of (Sum s) = s.table
declaration_of (Extreme e) = e.table
declaration_of (Members m) = m.table

-- how many emits were added to it
abbrev pub count_of : Aggregate → ℕ
count_of (Sum s) = s.count
count_of (Extreme e) = e.count
count_of (Members m) = m.count

-- the rows that it shows
abbrev pub shown_of : Aggregate → List RowDatum
shown_of (Sum s) = rows_of_sum s
shown_of (Extreme e) = rows_of_extremes e
shown_of (Members m) = rows_of_members m

-- a sum is no further from 0 than its emits can bring it
abbrev pub IsBounded : Aggregate → Type 0
IsBounded (Sum s) = AreWithin (2 ^ 63 * s.count) s.numbers
IsBounded _ = ⊤

-- the families of aggregators
pub data Family : Type 0 where
  sums : Family
  extremes : Family
  members : Family

-- the family that it is of
abbrev pub family_of : Aggregate → Family
family_of (Sum s) = sums
family_of (Extreme e) = extremes
family_of (Members m) = members

-- the family that tables of this kind need
abbrev pub family_for : TableKind → Family
family_for kinds.Sum = sums
family_for kinds.Maximum = extremes
family_for kinds.Minimum = extremes
family_for kinds.Set = members
family_for kinds.Collection = members

-- there is room for a merge of the other, which is of the same family; sums need none
abbrev pub HasRoomFor : Aggregate → Aggregate → Type 0
HasRoomFor (Sum s) (Sum other) = ⊤
HasRoomFor (Extreme e) (Extreme other) = HasExtremeRoomFor e other
HasRoomFor (Members m) (Members other) = HasMembersRoomFor m other
HasRoomFor _ _ = ⊥

-- nothing changed but the room
pub record ChangesRoomAlone (old new : Aggregate) : Type 0 where
  pub family : family_of new ≡ family_of old
  pub declared : declaration_of new ≡ declaration_of old
  pub count : count_of new ≡ count_of old
  pub rows : shown_of new ≡ shown_of old

-- the new one stands for what the old one and the other stood for
pub record IsJoined (old other new : Aggregate) : Type 0 where
  pub family : family_of new ≡ family_of old
  pub joins : Joins declaration_of count_of shown_of old other new
