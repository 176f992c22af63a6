-- What the functions of a job that is resumed promise each other.
use Rattle.std.specs.Prelude.{◌≡◌, ℕ, ◌-◌, List, length, Option, Some, IfSome, Result, Err}
use Rattle.sz_io.specs.Rose.{Rose}
use Rattle.sz_io.specs.declared.files.Files as files
use Rattle.sz_journal.specs.declared.error.OpenError.{OpenError}
use Rattle.sz_journal.specs.declared.error.OpenError.TheVariants as errors
use Rattle.sz_journal.specs.declared.job.JobBytes.{JobBytes}
use Rattle.sz_journal.specs.declared.round.RoundEntry.{RoundEntry}
use Rattle.sz_journal.specs.Journals.{Spelled}
use Rattle.sz_mean.specs.Marked.{Marked, all_tables}
use Rattle.sz_mean.specs.Programs.{statics}
use Rattle.sz_print.specs.Tables.{tables_text}
use Rattle.sz_protofile.specs.Types.{TypeShape}
use Rattle.sz_records.specs.declared.ending.Ending.{Ending}
use Rattle.sz_attempt.specs.declared.job.Job.{Job}
use Rattle.sz_workers.specs.Outcomes.{ShardsEnd, outcome_of}
use Rattle.sz_world_rules.specs.World.{Done}
use Rattle.sz_world_rules.specs.Slots.{Slot}
use Rattle.sz_words.specs.declared.settings.RunSettings.{RunSettings}
use Rattle.sz_resume.specs.Standing.{IsFound}
use Rattle.sz_resume.specs.declared.halt.Halt.{Halt}
use Rattle.sz_resume.specs.declared.halt.Halt.TheVariants as halts
use Rattle.szl.specs.declared.failure.Failure.{Failure}
use Rattle.szl.specs.declared.failure.Failure.TheVariants as failure
use Rattle.szl.specs.declared.status.Status.{Status}
use Rattle.szl.specs.Answers.{Answer}
use Rattle.szl.specs.Judgement.{Reading, IsRead}
use Rattle.szl.specs.Opening.{Decides, status_of_answer}
use Rattle.szl.specs.Outcome.{outcome_of_shards}
use Rattle.szl.specs.ProgramRuns.{failure_of_stop}
use Rattle.szl.specs.Promise.{OpensFiles}
use Rattle.szl.specs.Records.{Cut, IsCutInto}
use Rattle.szl.specs.ResumePromise.{IfSpelled, IfKnown, IsByJournal}
use Rattle.szl.specs.Resuming.{kept_job, source_of, unless_journal, outcome_after_statics, outcome_after_read}
use Rattle.szl.specs.Shards.{shards_in}

-- why a journal isn't opened
abbrev pub failure_of_journal : OpenError → Failure
failure_of_journal errors.OtherJob = failure.OtherJob
failure_of_journal (errors.Damaged gate) = failure.JournalDamaged gate
failure_of_journal errors.Failed = failure.DiskFailed
failure_of_journal errors.NoMemory = failure.NoMemory

-- why a job that goes on after its journal has no tables
abbrev pub failure_of_halt : Halt → Failure
failure_of_halt (halts.Stopped stop) = failure_of_stop stop
failure_of_halt (halts.Short gate) = failure.JournalDamaged gate
failure_of_halt halts.DiskFailed = failure.DiskFailed

-- the answer, where a disk that failed counts as want of memory: both are free
abbrev pub as_memory : {T : Type 0} → Result T Failure → Result T Failure
as_memory (Err failure.DiskFailed) = Err failure.NoMemory
as_memory answer = answer

-- The answer is that of an outcome which is so, but for a disk that failed: of these names the first are opened, as many as `most` has by how many the
-- outcome opens
pub record AnswersJob {F : Type 0} (the_files : files.Ghosts F) (IsOutcome : Status → Answer → Type 0) (names : List (List ℕ)) (most : ℕ → ℕ) (old new : F)
    (answer : Result (List ℕ) Failure) : Type 0 where
  pub outcome : Answer
  pub of : IsOutcome (status_of_answer answer) outcome
  pub decides : Decides (as_memory answer) outcome (Rose (the_files.faults old) (the_files.faults new))
  pub opened : OpensFiles the_files old new names (most outcome.opens) (status_of_answer (as_memory answer))

-- the number of the names after the first
abbrev pub but_one : ℕ → ℕ
but_one n = n - 1

-- The outcome of a job after these rounds of its journal, over an input and a journal that hold these bytes where they tell them
pub record IsAfterRounds (s : RunSettings) (job : Job) (name : JobBytes) (rounds : List RoundEntry) (told journal : Option (List ℕ)) (outcome : Answer)
    : Type 0 where
  pub input : List ℕ
  pub cut : Cut
  pub is_cut : IsCutInto s.frame input cut
  pub of_input : IfSome told (λ bytes. bytes ≡ input)
  pub rest : Answer
  pub end : ShardsEnd
  pub ending : Ending
  pub output : List ℕ
  pub is : rest ≡ record (outcome_of_shards (λ emits. output) ending end) { opens = 2 }
  pub of_run : (bytes held : List ℕ) → told ≡ Some bytes → journal ≡ Some held → IsFound name job (source_of s bytes) held rounds
      → rest ≡ outcome_of_shards (tables_text (all_tables job.compiled)) cut.ending (outcome_of job (shards_in s.shard cut.records))
  pub outcome_is : outcome ≡ unless_journal name (Spelled rounds) (length input) rest

-- what is so of the program and of its statics, if none of them faults
abbrev pub IfBegun : RunSettings → Marked → (Marked → List Slot → Type 0) → Type 0
IfBegun s program IsSo = (slots : List Slot) → statics program s.budget ≡ Done slots → IsSo program slots

-- the outcome of a program that can be run and saved
abbrev pub IsProgramOutcome : RunSettings → Marked → JobBytes → (told journal : Option (List ℕ)) → Status → Answer → Type 0
IsProgramOutcome s program name told journal status outcome =
    IsByJournal s (IfBegun s program) name (λ by rest. outcome_after_statics by rest (statics program s.budget)) told journal (IfKnown status) outcome

-- the outcome of what a text is read as, where these types are known
pub record IsTextOutcome (s : RunSettings) (types : List TypeShape) (text : List ℕ) (name : JobBytes) (told journal : Option (List ℕ)) (status : Status)
    (outcome : Answer) : Type 0 where
  pub reading : Reading
  pub read : IsRead text reading
  pub by_journal : IsByJournal s (IfSpelled s types reading) name (λ by rest. outcome_after_read s by rest reading types) told journal (IfKnown status)
      outcome

-- the outcome of the program's file, where the file of types has these bytes and types
pub record IsFileOutcome {F : Type 0} (the_files : files.Ghosts F) (s : RunSettings) (types : List TypeShape) (proto : List ℕ) (journal : Option (List ℕ))
    (old : F) (status : Status) (outcome : Answer) : Type 0 where
  pub text : List ℕ
  pub of_program : IfSome (the_files.held old s.program) (λ bytes. bytes ≡ text)
  pub of_text : IsTextOutcome s types text (kept_job s text proto) (the_files.held old s.input) journal status outcome
