-- The parts in which a table keeps its index lists: each lies in the part with its number.
use Rattle.std.specs.Prelude.{◌≡◌, ◌≤◌, ◌<◌, ◌+◌, ◌%◌, ◌^◌, ℕ, Some, List, [], ◌∷◌, ◌++◌, length, set, slice_get, slice_index_or}
use Rattle.std.specs.List.{AllByRecursion}
use Rattle.std.specs.Map.{keys_of}
use Rattle.sz_types.specs.Tables.{Declaration}
use Rattle.sz_value.specs.Data.{Datum}
use Rattle.sz_flat.specs.Digest.{list_digest}
use Rattle.sz_tabs.specs.Data.{EmitDatum}
use Rattle.sz_total.specs.Entries.{Entries, AreOfTable, TakesEmit}
use Rattle.sz_total.specs.Joining.{AreAlike, LooksTheSame, HaveRoomFor, AreReady, JoinsEntries}

-- a part: its aggregators, for how many there is room, and those that came to be joined with them
pub record PartState : Type 0 where
  pub entries : Entries
  pub room : ℕ
  pub arriving : Entries

-- a part with nothing in it
abbrev pub empty_part : PartState
empty_part = record { entries = []; room = 0; arriving = [] }

-- the part with a number, one with nothing in it where there is none
abbrev pub part_at : List PartState → ℕ → PartState
part_at parts at = slice_index_or parts at empty_part

-- the number of the part of an index list, of so many
unfoldable pub part_of : ℕ → List Datum → ℕ
part_of count indexes = list_digest indexes % count

-- the aggregators of all parts, one part after the other
abbrev pub entries_of : List PartState → Entries
entries_of [] = []
entries_of (p ∷ ps) = p.entries ++ entries_of ps

-- each index list is one of the part with this number, of so many
abbrev pub IsPlaced : ℕ → ℕ → Entries → Type 0
IsPlaced count at entries = AllByRecursion (λ l. part_of count l ≡ at) (keys_of entries)

-- each index list lies in the part with its number
abbrev pub ArePlaced : List PartState → Type 0
ArePlaced parts = (at : ℕ) → IsPlaced (length parts) at (part_at parts at).entries

-- each aggregator in each part is one of the table
abbrev pub ArePartsOf : Declaration → ℕ → List PartState → Type 0
ArePartsOf table count parts = (at : ℕ) → AreOfTable table count (part_at parts at).entries

-- nothing waits to be joined
abbrev pub AreSettled : List PartState → Type 0
AreSettled parts = (at : ℕ) → (part_at parts at).arriving ≡ []

-- each aggregator in the part with the number is one of the table
pub record IsPartOf (table : Declaration) (count at : ℕ) (parts : List PartState) : Type 0 where
  pub own : PartState
  pub there : slice_get parts at ≡ Some own
  pub are : AreOfTable table count own.entries

-- the part with the number takes the emit, and the others stay
pub record TakesEmitAt (table : Declaration) (emit : EmitDatum) (at : ℕ) (old new : List PartState) : Type 0 where
  pub before : PartState
  pub after : PartState
  pub there : slice_get old at ≡ Some before
  pub takes : TakesEmit table emit before.entries after.entries
  pub arriving : after.arriving ≡ before.arriving
  pub now : new ≡ set old at after

-- the part of the emit's index list takes the emit
abbrev pub PartTakesEmit : Declaration → EmitDatum → List PartState → List PartState → Type 0
PartTakesEmit table emit old new = TakesEmitAt table emit (part_of (length old) emit.indexes) old new

-- there is room for the other part: for its index lists, and in each aggregator
pub record HasPartRoom (own other : PartState) : Type 0 where
  pub lists : length own.entries + length other.entries ≤ own.room
  pub aggregates : HaveRoomFor own.entries other.entries

-- the part with the number has room for the other
pub record HasPartRoomAt (at : ℕ) (other : PartState) (parts : List PartState) : Type 0 where
  pub own : PartState
  pub there : slice_get parts at ≡ Some own
  pub room : HasPartRoom own other

-- nothing changed but the room of the part with the number
pub record ChangesPartRoomAt (at : ℕ) (old new : List PartState) : Type 0 where
  pub before : PartState
  pub after : PartState
  pub there : slice_get old at ≡ Some before
  pub looks : LooksTheSame before.entries after.entries
  pub arriving : after.arriving ≡ before.arriving
  pub now : new ≡ set old at after

-- the parts of both sides with the same number are of one family
abbrev pub ArePartsAlike : List PartState → List PartState → Type 0
ArePartsAlike parts others = (at : ℕ) → AreAlike (part_at parts at).entries (part_at others at).entries

-- the part with the number is of the family of the other
pub record IsPartAlikeAt (at : ℕ) (other : PartState) (parts : List PartState) : Type 0 where
  pub own : PartState
  pub there : slice_get parts at ≡ Some own
  pub alike : AreAlike own.entries other.entries

-- each part has room for that of the other side with its number
abbrev pub HavePartRoom : List PartState → List PartState → Type 0
HavePartRoom parts others = (at : ℕ) → HasPartRoom (part_at parts at) (part_at others at)

-- nothing changed but the room of parts
pub record PartsLookTheSame (old new : List PartState) : Type 0 where
  pub as_many : length new ≡ length old
  pub each : (at : ℕ) → LooksTheSame (part_at old at).entries (part_at new at).entries
  pub arriving : (at : ℕ) → (part_at new at).arriving ≡ (part_at old at).arriving

-- the part, with what the other has waiting to be joined
abbrev pub beside : PartState → PartState → PartState
beside own other = record { entries = own.entries; room = own.room; arriving = other.entries }

-- what the other part has waits at the part with the number
pub record ReceivesAt (at : ℕ) (other : PartState) (old new : List PartState) : Type 0 where
  pub before : PartState
  pub there : slice_get old at ≡ Some before
  pub now : new ≡ set old at (beside before other)

-- what each part of the other side has waits at that with its number
pub record Receives (others old new : List PartState) : Type 0 where
  pub as_many : length new ≡ length old
  pub each : (at : ℕ) → part_at new at ≡ beside (part_at old at) (part_at others at)

-- what waits may be joined
pub record MayJoin (own : PartState) : Type 0 where
  pub ready : AreReady (2 ^ 63) own.entries own.arriving
  pub room : length own.entries + length own.arriving ≤ own.room

-- what waited was joined
pub record Settles (old new : PartState) : Type 0 where
  pub joins : JoinsEntries old.arriving old.entries new.entries
  pub arriving : new.arriving ≡ []

-- the part with the number settles
pub record SettlesAt (at : ℕ) (old new : List PartState) : Type 0 where
  pub before : PartState
  pub after : PartState
  pub there : slice_get old at ≡ Some before
  pub settles : Settles before after
  pub now : new ≡ set old at after

-- what waits at each part may be joined
abbrev pub MayJoinAll : List PartState → Type 0
MayJoinAll parts = (at : ℕ) → at < length parts → MayJoin (part_at parts at)

-- what waits at the part with the number may be joined
pub record MayJoinAt (at : ℕ) (parts : List PartState) : Type 0 where
  pub own : PartState
  pub there : slice_get parts at ≡ Some own
  pub may : MayJoin own

-- what waited at each part was joined
pub record SettleAll (old new : List PartState) : Type 0 where
  pub as_many : length new ≡ length old
  pub each : (at : ℕ) → at < length old → Settles (part_at old at) (part_at new at)
