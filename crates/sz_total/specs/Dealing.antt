-- Index lists that are dealt to parts.
use Rattle.std.specs.Prelude.{◌≡◌, ◌≤◌, ◌<◌, ◌+◌, ℕ, nat_eq, Bool, None, Some, List, [], ◌++◌, ◌∷◌, length, filter, set, slice_get, slice_index_or}
use Rattle.std.specs.Map.{lookup}
use Rattle.sz_value.specs.Data.{Datum}
use Rattle.sz_total.specs.Entries.{Entries, same_indexes}
use Rattle.sz_total.specs.Parts.{PartState, part_of, part_at}
use Rattle.sz_total.specs.declared.aggregate.Aggregate.{Aggregate}

-- the part has nothing under the index list
abbrev pub Lacks : List Datum → PartState → Type 0
Lacks indexes part = lookup (same_indexes indexes) part.entries ≡ None

-- whether the index list is one of the part with this number, of 16
abbrev pub lies_in : ℕ → List Datum × Aggregate → Bool
lies_in at entry = nat_eq (part_of 16 entry.0) at

-- those of the part with this number
abbrev pub share_of : ℕ → Entries → Entries
share_of at entries = filter (lies_in at) entries

-- how many there are for each of 16 parts
abbrev pub AreCounted : Entries → List ℕ → Type 0
AreCounted entries counts = (at : ℕ) → at < 16 → slice_index_or counts at 0 ≡ length (share_of at entries)

-- the part has its share of the first entries, and room for that of the others
pub record HasShare (at : ℕ) (first others : Entries) (part : PartState) : Type 0 where
  pub entries : part.entries ≡ share_of at first
  pub room : length (share_of at first) + length (share_of at others) ≤ part.room
  pub arriving : part.arriving ≡ []

-- each of 16 parts has its share of the first entries, and room for that of the others
pub record HaveShares (first others : Entries) (parts : List PartState) : Type 0 where
  pub as_many : length parts ≡ 16
  pub each : (at : ℕ) → at < 16 → HasShare at first others (part_at parts at)

-- the part of the index list has room for one more, and doesn't have it
pub record MayPut (indexes : List Datum) (parts : List PartState) : Type 0 where
  pub many : length parts ≡ 16
  pub own : PartState
  pub there : slice_get parts (part_of 16 indexes) ≡ Some own
  pub absent : Lacks indexes own
  pub room : length own.entries < own.room

-- the aggregator stands last in the part of its index list
pub record PutsLast (indexes : List Datum) (aggregate : Aggregate) (old new : List PartState) : Type 0 where
  pub own : PartState
  pub there : slice_get old (part_of 16 indexes) ≡ Some own
  pub now : new ≡ set old (part_of 16 indexes)
      (record { entries = own.entries ++ (indexes, aggregate) ∷ []; room = own.room; arriving = own.arriving })
