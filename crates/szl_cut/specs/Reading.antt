-- What is known of a file on the way.
use Rattle.std.specs.Prelude.{◌≡◌, ℕ, ◌+◌, ◌-◌, ◌^◌, ◌<◌, Bool, true, false, List, [], ◌++◌, length, Option, Some, None, Result, Ok, Err}
use Rattle.std.specs.Io.KnownBytes.{Consumes, IsAtEnd}
use Rattle.sz_types.specs.declared.frame.Frame.TheVariants.{Delimited}
use Rattle.sz_records.specs.declared.ending.Ending.{Ending}
use Rattle.sz_records.specs.declared.ending.Ending.TheVariants as endings
use Rattle.sz_records.specs.Cutting.{full, ends_in}
use Rattle.sz_records.specs.Ends.{no_records}
use Rattle.sz_records.specs.Fed.{FramerData, HasRead}
use Rattle.szl_cut.specs.declared.failure.Failure.{Failure}
use Rattle.szl_cut.specs.declared.failure.Failure.TheVariants.{Damaged, Limit}
use Rattle.szl_cut.specs.declared.progress.Progress.{Progress}
use Rattle.szl_cut.specs.Cuts.{cuts, IsCutAt}
use Rattle.szl_cut.specs.Answers.{IsFor}

-- nothing was read
pub record Starts (size : ℕ) (progress : Progress) : Type 0 where
  pub read : HasRead Delimited full progress.framer [] []
  pub goes_on : progress.framer.ended ≡ None
  pub empty : progress.records ≡ no_records
  pub same_size : progress.size ≡ size
  pub before : progress.before ≡ 0
  pub start : progress.start ≡ 0
  pub places : progress.places.items ≡ []

-- these bytes were read and these messages found, and the file is cut so far as they tell
pub record IsAt (size : ℕ) (progress : Progress) (fed : List ℕ) (given : List (List ℕ)) : Type 0 where
  pub read : HasRead Delimited full progress.framer fed given
  pub empty : progress.records ≡ no_records
  pub same_size : progress.size ≡ size
  pub cut : (more rest : List ℕ) → cuts size 0 0 (ends_in 0 0 Delimited full (fed ++ more) 0 (length given) ++ rest)
      ≡ progress.places.items ++ cuts size progress.before progress.start rest

-- messages that end at these places were noted
pub record Notes (old new : Progress) (ends : List ℕ) : Type 0 where
  pub framer : new.framer ≡ old.framer
  pub same_size : new.size ≡ old.size
  pub cut : (rest : List ℕ) → old.places.items ++ cuts old.size old.before old.start (ends ++ rest)
      ≡ new.places.items ++ cuts old.size new.before new.start rest

-- how messages end, as the answer
abbrev pub ended_so : Option Ending → Result (Unit {0}) Failure
ended_so None = Ok tt
ended_so (Some endings.Whole) = Ok tt
ended_so (Some (endings.Damaged byte)) = Err (Damaged byte)
ended_so (Some (endings.Limit byte)) = Err (Limit byte)

-- a piece was taken in, and the ending isn't known
pub record TakesIn (size : ℕ) (new : Progress) (fed : List ℕ) : Type 0 where
  pub given : List (List ℕ)
  pub at : IsAt size new fed given
  pub goes_on : new.framer.ended ≡ None

-- whatever was read before the piece, it is taken in
abbrev pub Takes : Progress → Progress → List ℕ → Type 0
Takes old new piece = (size : ℕ) (fed : List ℕ) (given : List (List ℕ)) → IsAt size old fed given
    → old.framer.ended ≡ None → TakesIn size new (fed ++ piece)

-- whatever was read before the piece, each file that so begins ends so
abbrev pub Stops : Progress → List ℕ → Failure → Type 0
Stops old piece failure = (size : ℕ) (fed : List ℕ) (given : List (List ℕ)) → IsAt size old fed given
    → (more : List ℕ) → IsFor (Some (fed ++ piece ++ more)) failure

-- the file that was read is whole, and cut so
abbrev pub Finishes : Progress → List ℕ → Type 0
Finishes old places = (size : ℕ) (fed : List ℕ) (given : List (List ℕ)) → IsAt size old fed given
    → IsCutAt size fed places

-- the file that was read ends otherwise
abbrev pub FinishesNot : Progress → Failure → Type 0
FinishesNot old failure = (size : ℕ) (fed : List ℕ) (given : List (List ℕ)) → IsAt size old fed given
    → IsFor (Some fed) failure

-- bytes were read from the beginning of a file
pub record Reaches (size : ℕ) (progress : Progress) (start left : Option (List ℕ)) : Type 0 where
  pub fed : List ℕ
  pub given : List (List ℕ)
  pub at : IsAt size progress fed given
  pub goes_on : progress.framer.ended ≡ None
  pub consumed : Consumes start left fed

-- all bytes were read that were left
pub record IsReadOut (before after : Option (List ℕ)) : Type 0 where
  pub fed : List ℕ
  pub consumed : Consumes before after fed
  pub at_end : IsAtEnd after

-- how many bytes may still be read at most
abbrev pub left_to_read : FramerData → ℕ
left_to_read framer = 2 ^ 40 + 10 - (framer.cutter.place + length framer.pending)

-- a piece was read; there is no more where the file is at its end
pub record ReadsOn (size : ℕ) (old new : Progress) (start left : Option (List ℕ)) (more : Bool) : Type 0 where
  pub reached : Reaches size new start left
  pub at_end : more ≡ false → IsAtEnd left
  pub less : more ≡ true → left_to_read new.framer < left_to_read old.framer

abbrev pub Reads : Progress → Progress → Option (List ℕ) → Option (List ℕ) → Bool → Type 0
Reads old new left after more = (size : ℕ) (start : Option (List ℕ)) → Reaches size old start left
    → ReadsOn size old new start after more

abbrev pub StopsReading : Progress → Option (List ℕ) → Failure → Type 0
StopsReading old left failure = (size : ℕ) (start : Option (List ℕ)) → Reaches size old start left → IsFor start failure
