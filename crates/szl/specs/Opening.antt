-- What opening and reading the files of a command line gives.
use Rattle.std.specs.Prelude.{◌≡◌, ◌≢◌, ℕ, ◌≤◌, ◌<◌, ◌-◌, ⊤, Bool, true, false, List, [], ◌∷◌, ◌++◌, length, Option, IfSome, option_to_list, Result, Ok, Err}
use Rattle.sz_io.specs.Rose.{Rose}
use Rattle.sz_io.specs.declared.files.Files as files
use Rattle.szl.specs.declared.status.Status.{Status}
use Rattle.szl.specs.declared.status.Status.TheVariants as status
use Rattle.szl.specs.declared.failure.Failure.{Failure}
use Rattle.szl.specs.declared.failure.Failure.TheVariants.{Usage, Refused, Faulted, Lost, Damaged, Limit, BadTables, OtherTables, TablesLimit}
use Rattle.szl.specs.declared.failure.Failure.TheVariants.{BadProtoFile, OtherJob, JournalDamaged, DiskFailed, ReadFailed, WriteFailed, NoMemory}
use Rattle.sz_check_rules.specs.declared.cause.Cause.TheVariants.{TooLong}
use Rattle.sz_lex.specs.Tokens.{first_place}
use Rattle.sz_types.specs.declared.frame.Frame.{Frame}
use Rattle.sz_mean.specs.Marked.{Marked}
use Rattle.sz_machine.specs.Ends.{seen_fault}
use Rattle.sz_words.specs.declared.settings.RunSettings.{RunSettings}
use Rattle.sz_words.specs.declared.settings.Settings.{Settings}
use Rattle.szl.specs.Settings.{frame_asked}
use Rattle.szl.specs.Records.{Cut, IsCutInto}
use Rattle.sz_refusals.specs.Refusing.{refusal_at}
use Rattle.szl.specs.Judgement.{Reading, IsRead}
use Rattle.szl.specs.Answers.{Answer, Says, usage_line, damaged_line, limit_line, bad_tables_line, other_tables_line, tables_limit_line, success, refusal}
use Rattle.szl.specs.Answers.{other_job_line, journal_damaged_line}
use Rattle.szl.specs.Outcome.{outcome_faulted, outcome_lost, outcome_refused}
use Rattle.szl.specs.Failing.{status_of}
use Rattle.szl.specs.Outcome.{outcome_of_program, outcome_of_run, outcome_of_check, outcome_with, outcome_after}
use Rattle.szl.specs.Merging.{Merged}
use Rattle.szl.specs.Promise.{AreOfFiles, IsMergedFor, OpensFiles, later_names}
use Rattle.szl.specs.ProtoFiles.{IsFileRead, IsOfFile, proto_asked, outcome_bad_file}
use Rattle.sz_protofile.specs.Types.{TypeShape}
use Rattle.sz_protofile_types.specs.Readings.{FileReading}

-- what reading a whole file says of its text: the text, that it is past the limit, that a read failed, or want of memory
abbrev pub TellsText : List ℕ → ℕ → Failure → Type 0 → Result (List ℕ) Failure → Type 0
TellsText text limit past rose (Ok bytes) = (bytes ≡ text) × (length text ≤ limit)
TellsText text limit past rose (Err ReadFailed) = rose
TellsText text limit past rose (Err NoMemory) = ⊤
TellsText text limit past rose (Err failure) = (failure ≡ past) × (limit < length text)

-- the failure of a program's text past its limit
abbrev pub past_program : Failure
past_program = Refused (refusal_at TooLong first_place)

-- a file was read: it holds this text where it is told, and the answer is of this text
pub record ReadsText (told : Option (List ℕ)) (limit : ℕ) (past : Failure) (rose : Type 0) (answer : Result (List ℕ) Failure) : Type 0 where
  pub text : List ℕ
  pub holds : IfSome told (λ bytes. bytes ≡ text)
  pub tells : TellsText text limit past rose answer

-- whether memory ran out
abbrev pub ran_out : {A : Type 0} → Result A Failure → Bool
ran_out (Err NoMemory) = true
ran_out answer = false

-- the status of an answer, if all its output is written
abbrev pub status_of_answer : {A : Type 0} → Result A Failure → Status
status_of_answer (Ok output) = status.Done
status_of_answer (Err failure) = status_of failure

-- the cause of a failure, by the outcome: all but the free ones say what the outcome does. No call of a disk is made here, so that none fails
abbrev pub IsCause : Failure → Answer → Type 0 → Type 0
IsCause Usage answer rose = Says answer (refusal status.Usage usage_line 0)
IsCause (Refused r) answer rose = Says answer (outcome_refused r)
IsCause (Faulted number fault) answer rose = Says answer (outcome_faulted number (seen_fault fault))
IsCause (Lost shard) answer rose = Says answer (outcome_lost shard)
IsCause (Damaged byte) answer rose = Says answer (refusal status.Damaged (damaged_line byte) 2)
IsCause (Limit byte) answer rose = Says answer (refusal status.Limit (limit_line byte) 2)
IsCause (BadTables number) answer rose = Says answer (refusal status.BadTables (bad_tables_line number) number)
IsCause (OtherTables number) answer rose = Says answer (refusal status.OtherTables (other_tables_line number) number)
IsCause (TablesLimit number) answer rose = Says answer (refusal status.TablesLimit (tables_limit_line number) number)
IsCause (BadProtoFile f) answer rose = Says answer (outcome_bad_file f)
IsCause OtherJob answer rose = Says answer (refusal status.OtherJob other_job_line 1)
IsCause (JournalDamaged gate) answer rose = Says answer (refusal status.JournalDamaged (journal_damaged_line gate) 1)
IsCause DiskFailed answer rose = ⊥
IsCause ReadFailed answer rose = rose × (answer.status ≢ status.Usage)
IsCause WriteFailed answer rose = ⊥
IsCause NoMemory answer rose = ⊤

-- what is answered before anything is written: the outcome's output, or a failure with its cause
abbrev pub Decides : Result (List ℕ) Failure → Answer → Type 0 → Type 0
Decides (Ok output) answer rose = Says answer (success output)
Decides (Err failure) answer rose = IsCause failure answer rose

-- the answer is that of the outcome where these types are known, for what the files hold under the names that settings ask for
pub record AnswersWith {F : Type 0} (the_files : files.Ghosts F) (types : List TypeShape) (asked : Option Settings) (old new : F)
    (answer : Result (List ℕ) Failure) : Type 0 where
  pub text : List ℕ
  pub reading : Reading
  pub read : IsRead text reading
  pub input : List ℕ
  pub cut : Cut
  pub is_cut : IsCutInto (frame_asked asked) input cut
  pub saved : List (List ℕ)
  pub merged : Merged
  pub is_merged : IsMergedFor asked saved merged
  pub of_files : AreOfFiles asked (the_files.held old) text input saved
  pub decides : Decides answer (outcome_with types asked reading cut merged) (Rose (the_files.faults old) (the_files.faults new))
  pub opened : OpensFiles the_files old new (later_names asked) (outcome_with types asked reading cut merged).opens (status_of_answer answer)

-- the answer is that of the outcome after the file of a name, if there is one
pub record AnswersAfter {F : Type 0} (the_files : files.Ghosts F) (name : Option (List ℕ)) (asked : Option Settings) (old new : F)
    (answer : Result (List ℕ) Failure) : Type 0 where
  pub file_bytes : List ℕ
  pub file : FileReading
  pub file_read : IsFileRead file_bytes file
  pub of_file : IsOfFile name (the_files.held old) file_bytes
  pub text : List ℕ
  pub reading : Reading
  pub read : IsRead text reading
  pub input : List ℕ
  pub cut : Cut
  pub is_cut : IsCutInto (frame_asked asked) input cut
  pub saved : List (List ℕ)
  pub merged : Merged
  pub is_merged : IsMergedFor asked saved merged
  pub of_files : AreOfFiles asked (the_files.held old) text input saved
  pub decides : Decides answer (outcome_after name file asked reading cut merged) (Rose (the_files.faults old) (the_files.faults new))
  pub opened : OpensFiles the_files old new (option_to_list name ++ later_names asked) (outcome_after name file asked reading cut merged).opens
      (status_of_answer answer)

-- the answer is that of the outcome, for what the files hold under the names that settings ask for
abbrev pub Answers : {F : Type 0} → files.Ghosts F → Option Settings → F → F → Result (List ℕ) Failure → Type 0
Answers the_files asked old new answer = AnswersAfter the_files (proto_asked asked) asked old new answer

-- The answer is that of an outcome on the records of what the file under the name holds. One file was opened before, so that none is
-- opened for an outcome that opens one
pub record AnswersOn {F : Type 0} (the_files : files.Ghosts F) (frame : Frame) (outcome_on : Cut → Answer) (name : List ℕ) (old new : F)
    (answer : Result (List ℕ) Failure) : Type 0 where
  pub input : List ℕ
  pub cut : Cut
  pub is_cut : IsCutInto frame input cut
  pub holds : IfSome (the_files.held old name) (λ bytes. bytes ≡ input)
  pub decides : Decides answer (outcome_on cut) (Rose (the_files.faults old) (the_files.faults new))
  pub opened : OpensFiles the_files old new (name ∷ []) ((outcome_on cut).opens - 1) (status_of_answer answer)

-- the answer is that of running what the text is read as where these types are known, as these settings ask for it
pub record AnswersText {F : Type 0} (the_files : files.Ghosts F) (types : List TypeShape) (s : RunSettings) (text : List ℕ) (old new : F)
    (answer : Result (List ℕ) Failure) : Type 0 where
  pub reading : Reading
  pub read : IsRead text reading
  pub answers : AnswersOn the_files s.frame (λ cut. outcome_of_run types s cut reading) s.input old new answer

-- the answer is that of checking what the text is read as where these types are known
pub record AnswersCheck (types : List TypeShape) (text : List ℕ) (answer : Result (List ℕ) Failure) : Type 0 where
  pub reading : Reading
  pub read : IsRead text reading
  pub decides : Decides answer (outcome_of_check types reading) ⊥

-- the answer is that of running the program over these bytes, as these settings ask for it
pub record AnswersOver (program : Marked) (s : RunSettings) (input : List ℕ) (answer : Result (List ℕ) Failure) : Type 0 where
  pub cut : Cut
  pub is_cut : IsCutInto s.frame input cut
  pub decides : Decides answer (outcome_of_program program s cut) ⊥

-- the answer is that of running what the text is read as over these bytes, as these settings ask for it; no types are known
pub record AnswersTextOver (s : RunSettings) (text input : List ℕ) (answer : Result (List ℕ) Failure) : Type 0 where
  pub reading : Reading
  pub read : IsRead text reading
  pub cut : Cut
  pub is_cut : IsCutInto s.frame input cut
  pub decides : Decides answer (outcome_of_run [] s cut reading) ⊥
