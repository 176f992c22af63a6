-- The stretches of writes between the syncs of a disk in memory, and what a crash in each might have left.
use Rattle.std.specs.Prelude.{◌≡◌, ◌⊎◌, ℕ, Bool, true, false, List, [], ◌∷◌, ◌++◌, length, map, drop, Some}
use Rattle.std.proofs.Common.{subst}
use mathlib.Core.Logic.{inl, inr}
use Rattle.sz_disk.specs.declared.span.Span.{Span}
use Rattle.sz_disk.specs.declared.record.Stretch.{Stretch}
use Rattle.sz_disk.specs.declared.record.Record.{Record}
use Rattle.sz_disk.specs.Crashes.{Torn}

-- what stood at a sync, and the spans that were written since, up to the next sync
pub record Writes : Type 0 where
  pub synced : List ℕ
  pub spans : List Span

-- a crash may leave this image after these writes
abbrev pub LeftBy : Writes → List ℕ → Type 0
LeftBy writes image = Torn writes.spans writes.synced image

-- a crash at some moment of one of these stretches might have left it
abbrev pub MightHaveLeft : List Writes → List ℕ → Type 0
MightHaveLeft [] image = ⊥
MightHaveLeft (writes ∷ later) image = LeftBy writes image ⊎ MightHaveLeft later image

-- a stretch of the record, by what it holds
abbrev pub writes_of : Stretch → Writes
writes_of stretch = record { synced = stretch.synced.items; spans = stretch.spans.items }

-- the last stretch that has a write
abbrev pub last_writes : Record → Writes
last_writes kept = record { synced = kept.synced.items; spans = kept.spans.items }

-- the writes since the last sync, where a read gives these bytes: right after a sync there are none
abbrev pub writes_now : Bool → List ℕ → Writes → Writes
writes_now true bytes last = record { synced = bytes; spans = [] }
writes_now false bytes last = last

-- the stretches that a sync has ended, the first of them first: also the last one, where nothing was written since a
-- sync
abbrev pub with_last : Bool → List Writes → Writes → List Writes
with_last true ended last = ended ++ last ∷ []
with_last false ended last = ended

-- the writes since the last sync, by the record
abbrev pub at_hand : Record → List ℕ → Writes
at_hand kept bytes = writes_now kept.is_synced bytes (last_writes kept)

-- the stretches that a sync has ended, by the record
abbrev pub ended_by : Record → List Writes
ended_by kept = with_last kept.is_synced (map writes_of kept.ended.items) (last_writes kept)

-- one more write
abbrev pub and_also : Writes → Span → Writes
and_also writes span = record { synced = writes.synced; spans = writes.spans ++ span ∷ [] }

-- a write is noted: the writes since the last sync are those that they were and this one
pub record Notes (old new : Record) (bytes : List ℕ) (span : Span) : Type 0 where
  pub one_more : (after : List ℕ) → at_hand new after ≡ and_also (at_hand old bytes) span
  pub same_ended : ended_by new ≡ ended_by old

-- nothing is noted
pub record NotesNothing (old new : Record) (bytes : List ℕ) : Type 0 where
  pub none_more : at_hand new bytes ≡ at_hand old bytes
  pub same_ended : ended_by new ≡ ended_by old

-- no writes since these bytes were synced
abbrev pub no_writes : List ℕ → Writes
no_writes bytes = record { synced = bytes; spans = [] }

-- A sync: there are no writes since, and the stretch at hand has come to its end, unless it had no write.
pub record Syncs (old new : Record) (bytes : List ℕ) : Type 0 where
  pub none_since : at_hand new bytes ≡ no_writes bytes
  pub ends : ((ended_by new ≡ ended_by old) × (at_hand old bytes ≡ no_writes bytes))
      ⊎ (ended_by new ≡ ended_by old ++ at_hand old bytes ∷ [])

-- what a read gives may be left
pub still_left : {bytes held : List ℕ} (writes : Writes) → Some bytes ≡ Some held → LeftBy writes bytes → LeftBy writes held
still_left {bytes} {held} writes is left =
    let same : bytes ≡ held = cc in
    subst (LeftBy writes) same left

none_left : (ended : List Writes) (image : List ℕ) → MightHaveLeft (drop (length ended) ended) image → ⊥
none_left [] image none = none
none_left (writes ∷ ended) image left = none_left ended image left

-- since the end of all stretches there is this moment alone
pub only_this_moment : (ended : List Writes) (writes : Writes) (image : List ℕ)
    → LeftBy writes image ⊎ MightHaveLeft (drop (length ended) ended) image → LeftBy writes image
only_this_moment ended writes image (inl now) = now
only_this_moment ended writes image (inr before) = absurd (none_left ended image before)
