-- What is answered to files that are merged.
use Rattle.std.specs.Prelude.{◌≡◌, ℕ, suc, ◌+◌, ◌-◌, ◌<◌, ◌≤◌, ⊤, Bool, true, false, List, length, Option, IfSome, Result, Ok, Err}
use Rattle.sz_io.specs.Rose.{Rose}
use Rattle.sz_io.specs.declared.files.Files as files
use Rattle.std.specs.List.{AllByRecursion}
use Rattle.sz_save_format.specs.Saved.{SavedState, Saves}
use Rattle.sz_merge.specs.Together.{AreTogether}
use Rattle.sz_merge.specs.Groups.{AreOf, Adds}
use Rattle.szl.specs.declared.status.Status.{Status}
use Rattle.szl.specs.declared.status.Status.TheVariants as status
use Rattle.szl.specs.Failing.{status_of}
use Rattle.szl.specs.declared.failure.Failure.{Failure}
use Rattle.szl.specs.declared.failure.Failure.TheVariants.{Limit, BadTables, OtherTables, TablesLimit, ReadFailed, NoMemory}
use Rattle.szl.specs.Merging.{Merged, bad, other, past, MergesFrom, IsMerged, EndsAt, AreBytesOf, outcome_of_merge, merged_output, most_saved_bytes}
use Rattle.szl.specs.Opening.{Decides, status_of_answer}
use Rattle.szl.specs.Promise.{OpensFiles}

-- the state is that of a file
pub record IsOfFile (state : SavedState) : Type 0 where
  pub bytes : List ℕ
  pub short : length bytes ≤ most_saved_bytes
  pub saves : Saves bytes state

-- the groups are of the states of so many files
pub record StandFor (groups before : List SavedState) (done : ℕ) : Type 0 where
  pub groups_of : AreOf groups before
  pub each : AllByRecursion IsOfFile before
  pub count : length before ≡ done

-- what is told of the bytes of a file by what adding it to those before it gave: the groups with it; or that it ends the merging; or that a read
-- failed, or want of memory
abbrev pub TellsFile : List SavedState → List ℕ → Type 0 → Result (List SavedState) Failure → Type 0
TellsFile before bytes rose (Ok groups) = (length bytes ≤ most_saved_bytes) × Adds before bytes groups
TellsFile before bytes rose (Err (Limit byte)) = (byte ≡ most_saved_bytes) × (most_saved_bytes < length bytes)
TellsFile before bytes rose (Err (BadTables file)) = EndsAt (suc (length before)) before bytes (bad file)
TellsFile before bytes rose (Err (OtherTables file)) = EndsAt (suc (length before)) before bytes (other file)
TellsFile before bytes rose (Err (TablesLimit file)) = EndsAt (suc (length before)) before bytes (past file)
TellsFile before bytes rose (Err ReadFailed) = rose
TellsFile before bytes rose (Err NoMemory) = ⊤
TellsFile before bytes rose (Err failure) = ⊥

-- a file was added to those before it, or not; it holds these bytes where they are told
pub record AddsFile (told : Option (List ℕ)) (before : List SavedState) (rose : Type 0) (result : Result (List SavedState) Failure) : Type 0 where
  pub bytes : List ℕ
  pub holds : IfSome told (λ held. held ≡ bytes)
  pub tells : TellsFile before bytes rose result

-- The answer is that of the outcome, for what the files hold under these names, after so many files of these states that were merged
-- already
pub record AnswersFrom {F : Type 0} (the_files : files.Ghosts F) (before : List SavedState) (names : List (List ℕ)) (save : Bool) (old new : F)
    (answer : Result (List ℕ) Failure) : Type 0 where
  pub bytes : List (List ℕ)
  pub held : AreBytesOf (the_files.held old) names bytes
  pub end : Merged
  pub merges : MergesFrom before bytes end
  pub decides : Decides answer (outcome_of_merge (length before + length names) save end) (Rose (the_files.faults old) (the_files.faults new))
  pub opened : OpensFiles the_files old new names ((outcome_of_merge (length before + length names) save end).opens - length before) (status_of_answer answer)

-- the output is that of what the states are together
pub record IsOutputOf (before : List SavedState) (save : Bool) (output : List ℕ) : Type 0 where
  pub all : SavedState
  pub are : AreTogether before all
  pub is : output ≡ merged_output save all

-- whether memory ran out
abbrev pub lacks_memory : {T : Type 0} → Result T Failure → Bool
lacks_memory (Err NoMemory) = true
lacks_memory result = false

-- the status that adding a file gives, if all its output is written
abbrev pub status_of_adding : {T : Type 0} → Result T Failure → Status
status_of_adding (Ok more) = status.Done
status_of_adding (Err failure) = status_of failure

-- the answer is that of the outcome, for what the files hold under these names
pub record AnswersMerge {F : Type 0} (the_files : files.Ghosts F) (names : List (List ℕ)) (save : Bool) (old new : F)
    (answer : Result (List ℕ) Failure) : Type 0 where
  pub bytes : List (List ℕ)
  pub held : AreBytesOf (the_files.held old) names bytes
  pub end : Merged
  pub merged : IsMerged bytes end
  pub decides : Decides answer (outcome_of_merge (length names) save end) (Rose (the_files.faults old) (the_files.faults new))
  pub opened : OpensFiles the_files old new names (outcome_of_merge (length names) save end).opens (status_of_answer answer)
