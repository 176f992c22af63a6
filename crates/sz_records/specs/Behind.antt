-- What stands in a file behind some of its records.
use Rattle.std.specs.Prelude.{◌≡◌, ℕ, ◌+◌, ◌≤◌, List, length, drop}
use Rattle.sz_types.specs.declared.frame.Frame.{Frame}
use Rattle.sz_records.specs.declared.ending.Ending.{Ending}
use Rattle.sz_records.specs.declared.limits.FrameLimits.{FrameLimits}
use Rattle.sz_records.specs.Cutting.{IsCut, place_after, ends_in}

-- So many records of a file end at this byte, each of which takes a byte at least, and what stands behind it is cut,
-- from there on and after these records, as the file is: it has the file's further records and the file's ending, and
-- each of them ends where it does in the file
pub record IsCutBehind (frame : Frame) (limits : FrameLimits) (file : List ℕ) (records : List (List ℕ))
    (ending : Ending) (count place : ℕ)
    : Type 0 where
  pub each : count ≤ place
  pub within : place ≤ length file
  pub in_input : place ≤ limits.input_bytes
  pub in_records : count ≤ limits.records
  pub rest : IsCut frame limits place count (drop place file) (drop count records) ending
  pub later : (more : ℕ)
      → place_after frame limits 0 0 file (count + more) ≡ place_after frame limits place count (drop place file) more
  pub ends : (i more : ℕ)
      → ends_in place count frame limits (drop place file) i more ≡ ends_in 0 0 frame limits file (count + i) more

-- behind each record the rest of a file is cut as the file is
abbrev pub RestIsCutSo : Type 0
RestIsCutSo =
    (frame : Frame) (limits : FrameLimits) (file : List ℕ) (records : List (List ℕ)) (ending : Ending) (count : ℕ)
    → IsCut frame limits 0 0 file records ending → count ≤ length records
    → IsCutBehind frame limits file records ending count (place_after frame limits 0 0 file count)
