-- A disk in memory, as its callers see it.
use Rattle.std.specs.Prelude.{◌≡◌, ◌⊎◌, ℕ, ◌+◌, ◌-◌, ◌^◌, min, Bool, true, false, ◌||◌, nat_le, nat_eq, ⊤}
use Rattle.std.specs.Prelude.{List, [], length, drop, Result, Err}
use Rattle.std.specs.List.{list_any}
use Rattle.sz_io.specs.Rose.{faults_after}
use Rattle.sz_io.specs.declared.error.OutsideError.{OutsideError}
use Rattle.sz_io.specs.declared.error.OutsideError.TheVariants.{Failed}
use Rattle.sz_disk.specs.Crashes.{told}
use Rattle.sz_disk.specs.Calls.{GoesOn}
use Rattle.sz_disk.specs.Stretches.{Writes, LeftBy, MightHaveLeft, at_hand, ended_by, and_also}
use Rattle.sz_disk.specs.declared.span.Span.{Span}
use Rattle.sz_disk.specs.declared.mem_disk.MemDisk.{MemDisk}

-- the bytes that a read gives
abbrev pub disk_bytes : MemDisk → List ℕ
disk_bytes disk = disk.bytes.items

-- the writes since the last sync
abbrev pub writes_since : MemDisk → Writes
writes_since disk = at_hand disk.kept disk.bytes.items

-- the stretches of writes that a sync has ended, the first of them first
abbrev pub ended_stretches : MemDisk → List Writes
ended_stretches disk = ended_by disk.kept

-- a crash now may leave this image
abbrev pub DiskLeaves : MemDisk → List ℕ → Type 0
DiskLeaves disk image = LeftBy (writes_since disk) image

-- the time: how many syncs have ended a stretch of writes
abbrev pub disk_time : MemDisk → ℕ
disk_time disk = length (ended_stretches disk)

-- a crash at some moment since a time might have left this image
abbrev pub DiskLeft : MemDisk → ℕ → List ℕ → Type 0
DiskLeft disk t image = DiskLeaves disk image ⊎ MightHaveLeft (drop t (ended_stretches disk)) image

-- how many calls have failed
abbrev pub disk_faults : MemDisk → ℕ
disk_faults disk = disk.faults

-- how many calls were made, which is the number of the next one
abbrev pub disk_calls : MemDisk → ℕ
disk_calls disk = disk.calls

-- the numbers of the calls that are to fail
abbrev pub disk_fails : MemDisk → List ℕ
disk_fails disk = disk.fails.items

-- the next call is to fail: the list has its number
abbrev pub is_next_listed : MemDisk → Bool
is_next_listed disk = list_any (λ k. nat_eq k (disk_calls disk)) (disk_fails disk)

-- the next call is to fail, if it is this write: the list has its number, or the write's end isn't below 2^63
abbrev pub write_is_to_fail : MemDisk → ℕ → List ℕ → Bool
write_is_to_fail disk at written = is_next_listed disk || nat_le (2 ^ 63) (at + length written)

-- the write has failed
abbrev pub has_failed : Result ⊤ OutsideError → Bool
has_failed (Err Failed) = true
has_failed result = false

-- a disk that nobody called: it holds these bytes, a crash leaves them all, and it has this list of calls that are to
-- fail
pub record IsNewDisk (disk : MemDisk) (bytes fails : List ℕ) : Type 0 where
  pub same_bytes : disk_bytes disk ≡ bytes
  pub no_write : writes_since disk ≡ record { synced = bytes; spans = [] }
  pub no_fault : disk_faults disk ≡ 0
  pub no_call : disk_calls disk ≡ 0
  pub same_fails : disk_fails disk ≡ fails

-- a call was counted: there is one fault more exactly where it failed, and the list stays
pub record CountsCall (old new : MemDisk) (failed : Bool) : Type 0 where
  pub one_call : disk_calls new ≡ min (disk_calls old + 1) (2 ^ 64 - 1)
  pub one_fault : disk_faults new ≡ faults_after (disk_faults old) failed
  pub same_fails : disk_fails new ≡ disk_fails old

-- the writes since the last sync gain this span, or stay where memory ran out, and no stretch ends
pub record WritesSpan (old new : MemDisk) (span : Span) : Type 0 where
  pub writes : (writes_since new ≡ and_also (writes_since old) span) ⊎ (writes_since new ≡ writes_since old)
  pub same_ended : ended_stretches new ≡ ended_stretches old

-- time goes on, by the meanings that the disk tells
abbrev pub DiskGoesOn : MemDisk → MemDisk → Type 0
DiskGoesOn old new =
    GoesOn (λ disk. told (DiskLeaves disk)) disk_time (λ disk t. told (DiskLeft disk t)) disk_faults old new
