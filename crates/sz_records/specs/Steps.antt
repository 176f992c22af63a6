-- What cutting promises inside the crate.
use Rattle.std.specs.Prelude.{◌≡◌, ℕ, ◌+◌, ◌<◌, ◌≤◌, List, ◌++◌, length, Option, Some, None}
use Rattle.sz_types.specs.declared.frame.Frame.{Frame}
use Rattle.sz_types.specs.declared.frame.Frame.TheVariants.{Lines}
use Rattle.sz_records.specs.declared.cutter.Cutter.{Cutter}
use Rattle.sz_records.specs.declared.cutter.Step.{Step}
use Rattle.sz_records.specs.declared.cutter.Step.TheVariants as steps
use Rattle.sz_records.specs.declared.ending.Ending.{Ending}
use Rattle.sz_records.specs.Cutting.{Standing, record_of, stopped, unfinished, line_len, standing, IsCut, place_after, places_of}
use Rattle.sz_records.specs.Ends.{RecordsData, with_record}

-- what stands at the front of these bytes
abbrev pub stands : Cutter → List ℕ → Standing
stands cutter bytes = standing cutter.frame cutter.limits cutter.place cutter.count bytes

-- what is still to come is cut so
abbrev pub IsCutOn : Cutter → List ℕ → List (List ℕ) → Ending → Type 0
IsCutOn cutter bytes rs e = IsCut cutter.frame cutter.limits cutter.place cutter.count bytes rs e

-- where so many more records end
abbrev pub place_on : Cutter → List ℕ → ℕ → ℕ
place_on cutter bytes count = place_after cutter.frame cutter.limits cutter.place cutter.count bytes count

-- the frame and the limits stay
pub record IsOf (old new : Cutter) : Type 0 where
  pub frame : new.frame ≡ old.frame
  pub limits : new.limits ≡ old.limits

-- nothing changed
pub record IsSame (old new : Cutter) : Type 0 where
  pub of : IsOf old new
  pub place : new.place ≡ old.place
  pub count : new.count ≡ old.count

-- a record of so many bytes was cut off
pub record IsPassed (old new : Cutter) (bytes : List ℕ) (before after : RecordsData) (size : ℕ) : Type 0 where
  pub of : IsOf old new
  pub place : new.place ≡ old.place + size
  pub count : new.count ≡ old.count + 1
  pub kept : List ℕ
  pub stood : stands old bytes ≡ record_of kept size
  pub gained : after ≡ with_record kept new.place before
  pub some : 0 < size
  pub within : size ≤ length bytes

-- one step is what stands at the front
abbrev pub IsStep : Cutter → Cutter → List ℕ → RecordsData → RecordsData → Step → Type 0
IsStep old new bytes before after (steps.Passed size) = IsPassed old new bytes before after size
IsStep old new bytes before after (steps.Stopped e) = IsSame old new × (stands old bytes ≡ stopped e) × (after ≡ before)
IsStep old new bytes before after steps.Unfinished = IsSame old new × (stands old bytes ≡ unfinished) × (after ≡ before)

-- records were added
pub record Grew (before after : RecordsData) : Type 0 where
  pub added : RecordsData
  pub items : after.items ≡ before.items ++ added.items
  pub ends : after.ends ≡ before.ends ++ added.ends

-- where records are lines, the first bytes are no newlines
abbrev pub IsScanned : Frame → List ℕ → ℕ → Type 0
IsScanned frame bytes scanned = frame ≡ Lines → scanned ≤ line_len bytes

-- what stands at the front of what is left, where cutting is over
abbrev pub IsLeft : Cutter → List ℕ → Option Ending → Type 0
IsLeft cutter left None = stands cutter left ≡ unfinished
IsLeft cutter left (Some e) = stands cutter left ≡ stopped e

-- Records were cut off the front of these bytes, and this is left: whatever comes after, the cut of what is left goes
-- on that of all, and further records end where they do after what is left. The bytes that are cut off are those
-- between the places
pub record CutsFront (old new : Cutter) (bytes left : List ℕ) (before after : RecordsData) : Type 0 where
  pub of : IsOf old new
  pub given : List (List ℕ)
  pub gained : after.items ≡ before.items ++ given
  pub ends : (more : List ℕ) → after.ends ≡ before.ends ++ places_of (place_on old (bytes ++ more)) 0 (length given)
  pub passed : new.place + length left ≡ old.place + length bytes
  pub goes_on : (more : List ℕ) (rs : List (List ℕ)) (e : Ending) → IsCutOn new (left ++ more) rs e
      → IsCutOn old (bytes ++ more) (given ++ rs) e
  pub later : (more : List ℕ) (count : ℕ)
      → place_on old (bytes ++ more) (length given + count) ≡ place_on new (left ++ more) count

-- as many records were cut off as are whole, and this ending is known then
pub record CutsOff (old new : Cutter) (bytes left : List ℕ) (before after : RecordsData)
    (ending : Option Ending) : Type 0 where
  pub front : CutsFront old new bytes left before after
  pub over : IsLeft new left ending
