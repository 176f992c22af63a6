-- What running a program gives, part by part.
use Rattle.std.specs.Prelude.{◌≡◌, ℕ, ◌≤◌, ⊤, Bool, true, List, [], ◌∷◌, length, IfSome, Result, Ok, Err, Vec}
use Rattle.sz_io.specs.Rose.{Rose}
use Rattle.sz_io.specs.declared.files.Files as files
use Rattle.sz_io.specs.declared.error.OutsideError.{OutsideError}
use Rattle.sz_io.specs.declared.error.OutsideError.TheVariants as outside
use Rattle.sz_types.specs.declared.frame.Frame.{Frame}
use Rattle.sz_world_rules.specs.World.{Done, Faulted}
use Rattle.sz_world_rules.specs.Slots.{Slot}
use Rattle.sz_mean.specs.Marked.{Marked, all_tables}
use Rattle.sz_mean.specs.Programs.{statics}
use Rattle.sz_machine.specs.Ends.{seen_fault}
use Rattle.sz_words.specs.declared.settings.RunSettings.{RunSettings}
use Rattle.sz_attempt.specs.declared.job.Job.{Job}
use Rattle.sz_resume.specs.declared.resumed_job.ResumedJob.{ResumedJob}
use Rattle.sz_resume.specs.Resumable.{CanResume}
use Rattle.sz_attempt.specs.Shards.{IsJob}
use Rattle.sz_workers.specs.Outcomes.{outcome_of}
use Rattle.sz_save.specs.Saving.{HaveSpelling}
use Rattle.sz_stream.specs.declared.stop.Stop.{Stop}
use Rattle.sz_stream.specs.declared.stop.Stop.TheVariants as stops
use Rattle.szl.specs.declared.failure.Failure.{Failure}
use Rattle.szl.specs.declared.failure.Failure.TheVariants as failure
use Rattle.szl.specs.Opening.{Decides, status_of_answer}
use Rattle.szl.specs.Promise.{OpensFiles}
use Rattle.szl.specs.Outcome.{written, outcome_of_shards}
use Rattle.szl.specs.Records.{Cut, IsCutInto}
use Rattle.szl.specs.Shards.{shards_in, job_of}

-- the bytes of a vector that a result holds, or its failure
abbrev pub vec_items_of : {A : Type 0} → Result (Vec ℕ A) Failure → Result (List ℕ) Failure
vec_items_of (Ok bytes) = Ok bytes.items
vec_items_of (Err failure) = Err failure

-- the statics that a program means, or the fault in one, which is that of record 0; or want of memory
abbrev pub GivesStatics : Marked → ℕ → Result (List Slot) Failure → Type 0
GivesStatics program budget (Ok slots) = statics program budget ≡ Done slots
GivesStatics program budget (Err (failure.Faulted number fault)) = (number ≡ 0) × (statics program budget ≡ Faulted (seen_fault fault))
GivesStatics program budget (Err failure.NoMemory) = ⊤
GivesStatics program budget (Err failure) = ⊥

-- why the input couldn't be opened
abbrev pub failure_of_opening : OutsideError → Failure
failure_of_opening outside.Failed = failure.ReadFailed
failure_of_opening outside.NoMemory = failure.NoMemory

-- why an input has no tables
abbrev pub failure_of_stop : Stop → Failure
failure_of_stop (stops.Fault number fault) = failure.Faulted number fault
failure_of_stop (stops.Lost shard) = failure.Lost shard
failure_of_stop (stops.Damaged byte) = failure.Damaged byte
failure_of_stop (stops.Limit byte) = failure.Limit byte
failure_of_stop stops.ReadFailed = failure.ReadFailed
failure_of_stop stops.NoMemory = failure.NoMemory

-- where its tables are to be saved, the program's declarations have a spelling
abbrev pub CanSave : Bool → Marked → Type 0
CanSave save program = save ≡ true → HaveSpelling (all_tables program)

-- What running a job over an input gives: the outcome of the shards of the input's records, with the tables saved or their text; or that a read
-- failed, or want of memory
pub record GivesTables (job : Job) (save : Bool) (most : ℕ) (frame : Frame) (input : List ℕ) (rose : Type 0) (answer : Result (List ℕ) Failure) : Type 0 where
  pub cut : Cut
  pub is_cut : IsCutInto frame input cut
  pub decides : Decides answer (outcome_of_shards (written job.compiled save (length cut.records) job.budget) cut.ending
      (outcome_of job (shards_in most cut.records))) rose

-- what running a job over the file of the settings gives, which is opened for it
pub record GivesFile {F : Type 0} (the_files : files.Ghosts F) (job : Job) (s : RunSettings) (old new : F) (answer : Result (List ℕ) Failure) : Type 0 where
  pub input : List ℕ
  pub holds : IfSome (the_files.held old s.input) (λ bytes. bytes ≡ input)
  pub tables : GivesTables job s.save s.shard s.frame input (Rose (the_files.faults old) (the_files.faults new)) answer
  pub opened : OpensFiles the_files old new (s.input ∷ []) 1 (status_of_answer answer)

-- the job is what the outcome knows of the run, with some shards doubled
pub record IsJobOf (program : Marked) (slots : List Slot) (s : RunSettings) (job : Job) : Type 0 where
  pub same : job ≡ record (job_of program slots s) { twice = job.twice }

-- the job is that of the program, with the statics that it means, and can be run; and so many workers run it
pub record IsJobFor (program : Marked) (s : RunSettings) (job : Job) (workers : ℕ) : Type 0 where
  pub slots : List Slot
  pub means : statics program s.budget ≡ Done slots
  pub is_job_of : IsJobOf program slots s job
  pub can_run : IsJob job
  pub attempts : (1 ≤ job.attempts) × (job.attempts ≤ 8)
  pub are_workers : (1 ≤ workers) × (workers ≤ 64)

-- the job of a program and how many workers run it; or, as of its statics, the fault in one, or want of memory
abbrev pub GivesJob : Marked → RunSettings → Result (Job × ℕ) Failure → Type 0
GivesJob program s (Ok made) = IsJobFor program s made.0 made.1
GivesJob program s (Err failure) = GivesStatics program s.budget (Err failure)

-- the input of a resumed job is told apart and cut into shards as these settings ask for it
pub record IsReadAs (s : RunSettings) (run : ResumedJob) : Type 0 where
  pub frame : run.frame ≡ s.frame
  pub shard : run.shard ≡ s.shard

-- the resumed job is that of the program as the settings ask for it, and can be resumed
pub record IsResumedFor (program : Marked) (s : RunSettings) (run : ResumedJob) : Type 0 where
  pub is_for : IsJobFor program s run.job run.workers
  pub read_as : IsReadAs s run
  pub can_resume : CanResume run

-- the job of a program that is resumed; or, as of its statics, the fault in one, or want of memory
abbrev pub GivesResumed : Marked → RunSettings → Result ResumedJob Failure → Type 0
GivesResumed program s (Ok run) = IsResumedFor program s run
GivesResumed program s (Err failure) = GivesStatics program s.budget (Err failure)
