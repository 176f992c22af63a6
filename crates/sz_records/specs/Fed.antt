-- What a framer has read, and what it makes of the bytes that are still to come.
use Rattle.std.specs.Prelude.{◌≡◌, ◌≢◌, ℕ, ◌+◌, ◌-◌, ◌≤◌, List, [], ◌++◌, length, Option, Some, None}
use Rattle.sz_types.specs.declared.frame.Frame.{Frame}
use Rattle.sz_records.specs.declared.cutter.Cutter.{Cutter}
use Rattle.sz_records.specs.declared.ending.Ending.{Ending}
use Rattle.sz_records.specs.declared.ending.Ending.TheVariants.{Whole}
use Rattle.sz_records.specs.declared.limits.FrameLimits.{FrameLimits}
use Rattle.sz_records.specs.Cutting.{unfinished, IsCut, place_after, ends_in}
use Rattle.sz_records.specs.Ends.{RecordsData}
use Rattle.sz_records.specs.Steps.{stands, IsCutOn, place_on, CutsOff}

-- what a contract sees of a framer: where it cuts, the bytes that it holds back, and the ending where that is known
pub record FramerData : Type 0 where
  pub cutter : Cutter
  pub pending : List ℕ
  pub ended : Option Ending

-- these are the bytes of the rest of the file: after those that are kept back they are cut so, or nothing is cut any
-- more
abbrev pub IsCutAfter : Cutter → List ℕ → Option Ending → List ℕ → List (List ℕ) → Ending → Type 0
IsCutAfter cutter pending None more rs e = IsCutOn cutter (pending ++ more) rs e
IsCutAfter cutter pending (Some why) more rs e = (rs ≡ []) × (e ≡ why)

-- the rest of the file is cut so by this framer
abbrev pub IsCutBy : FramerData → List ℕ → List (List ℕ) → Ending → Type 0
IsCutBy framer more rs e = IsCutAfter framer.cutter framer.pending framer.ended more rs e

-- no whole record is kept back
abbrev pub IsOpen : FramerData → Type 0
IsOpen framer = framer.ended ≡ None → stands framer.cutter framer.pending ≡ unfinished

-- The framer was fed these bytes of a file, those behind byte p and n records, and gave these records: however the
-- file goes on, what is still cut of it goes on that. Until the ending is known, the bytes that are kept back are
-- those after the place where the next record begins, and further records end where they do after these; a file isn't
-- whole before its end
pub record HasReadBehind (p n : ℕ) (frame : Frame) (limits : FrameLimits) (framer : FramerData) (fed : List ℕ)
    (given : List (List ℕ)) : Type 0 where
  pub within : p ≤ limits.input_bytes
  pub goes_on : (more : List ℕ) (rs : List (List ℕ)) (e : Ending) → IsCutBy framer more rs e
      → IsCut frame limits p n (fed ++ more) (given ++ rs) e
  pub nothing_whole : IsOpen framer
  pub same_limits : framer.cutter.limits ≡ limits
  pub reached : framer.ended ≡ None → framer.cutter.place + length framer.pending ≡ p + length fed
  pub later : framer.ended ≡ None → (more : List ℕ) (count : ℕ)
      → place_after frame limits p n (fed ++ more) (length given + count)
      ≡ place_on framer.cutter (framer.pending ++ more) count
  pub early : framer.ended ≢ Some Whole

-- the same of a whole file
abbrev pub HasRead : Frame → FrameLimits → FramerData → List ℕ → List (List ℕ) → Type 0
HasRead frame limits framer fed given = HasReadBehind 0 0 frame limits framer fed given

-- each file that goes on with these bytes, behind byte p and n records, has these records then, and this ending
abbrev pub Fixes : ℕ → ℕ → Frame → FrameLimits → List ℕ → List (List ℕ) → Ending → Type 0
Fixes p n frame limits fed given e = (more : List ℕ) → IsCut frame limits p n (fed ++ more) given e

-- each file that goes on with these bytes has this ending
abbrev pub EndsSo : ℕ → ℕ → Frame → FrameLimits → List ℕ → Ending → Type 0
EndsSo p n frame limits fed e = (more : List ℕ) → (rs : List (List ℕ)) × IsCut frame limits p n (fed ++ more) rs e

-- A piece was fed, and records were added: the records of a file whose bytes so far are those and the piece. An
-- ending is answered exactly where those bytes fix one
pub record Adds (p n : ℕ) (frame : Frame) (limits : FrameLimits) (framer : FramerData) (fed : List ℕ)
    (given before after : List (List ℕ))
    (ended : Option Ending) : Type 0 where
  pub added : List (List ℕ)
  pub gained : after ≡ before ++ added
  pub read : HasReadBehind p n frame limits framer fed (given ++ added)
  pub fixed : (e : Ending) → ended ≡ Some e → Fixes p n frame limits fed (given ++ added) e
  pub unfixed : ended ≡ None → (e : Ending) → EndsSo p n frame limits fed e → ⊥

-- the piece is read, whatever was read before it
abbrev pub Feeds : FramerData → FramerData → List ℕ → List (List ℕ) → List (List ℕ) → Option Ending → Type 0
Feeds old new piece before after ended =
    (p n : ℕ) (frame : Frame) (limits : FrameLimits) (fed : List ℕ) (given : List (List ℕ))
    → HasReadBehind p n frame limits old fed given → Adds p n frame limits new (fed ++ piece) given before after ended

-- the records that came now end in this file where those from record i on do, counted from 0
abbrev pub EndSo : ℕ → ℕ → Frame → FrameLimits → List ℕ → ℕ → RecordsData → RecordsData → Type 0
EndSo p n frame limits file i before after =
    after.ends ≡ before.ends ++ ends_in p n frame limits file i (length after.items - length before.items)

-- the records that came with the piece end where they do in each file that so begins
abbrev pub EndAsFed : FramerData → List ℕ → RecordsData → RecordsData → Type 0
EndAsFed old piece before after =
    (p n : ℕ) (frame : Frame) (limits : FrameLimits) (fed : List ℕ) (given : List (List ℕ))
    → HasReadBehind p n frame limits old fed given
    → (more : List ℕ) → EndSo p n frame limits (fed ++ piece ++ more) (length given) before after

-- the file ends here: the records that were given before and now are its records, with this ending
pub record Closes (p n : ℕ) (frame : Frame) (limits : FrameLimits) (file : List ℕ)
    (given before after : List (List ℕ)) (e : Ending) : Type 0 where
  pub added : List (List ℕ)
  pub gained : after ≡ before ++ added
  pub cut : IsCut frame limits p n file (given ++ added) e

-- the file that was read ends here
abbrev pub Finishes : FramerData → List (List ℕ) → List (List ℕ) → Ending → Type 0
Finishes old before after e = (p n : ℕ) (frame : Frame) (limits : FrameLimits) (fed : List ℕ) (given : List (List ℕ))
    → HasReadBehind p n frame limits old fed given → Closes p n frame limits fed given before after e

-- the records that came at the file's end end where they do in it
abbrev pub EndAsFinished : FramerData → RecordsData → RecordsData → Type 0
EndAsFinished old before after = (p n : ℕ) (frame : Frame) (limits : FrameLimits) (fed : List ℕ) (given : List (List ℕ))
    → HasReadBehind p n frame limits old fed given → EndSo p n frame limits fed (length given) before after

-- the whole records in what was kept back were cut off, and what is left is kept back, where the ending isn't known
pub record CutsPending (old new : FramerData) (before after : RecordsData) : Type 0 where
  pub left : List ℕ
  pub cut : CutsOff old.cutter new.cutter old.pending left before after new.ended
  pub pending : new.ended ≡ None → new.pending ≡ left
