-- That an outcome is the same whatever the number of workers, and that of a run whichever shards have a second ticket.
use Rattle.std.specs.Prelude.{◌≡◌, ℕ, List, Option, Some}
use Rattle.sz_mean.specs.Marked.{Marked}
use Rattle.sz_world_rules.specs.Slots.{Slot}
use Rattle.sz_protofile_types.specs.Readings.{FileReading}
use Rattle.sz_words.specs.declared.settings.RunSettings.{RunSettings}
use Rattle.sz_words.specs.declared.settings.Settings.TheVariants.{Run, Selftest}
use Rattle.szl.specs.declared.status.Status.{Status}
use Rattle.szl.specs.Answers.{Answer}
use Rattle.szl.specs.Judgement.{Reading}
use Rattle.szl.specs.Merging.{Merged}
use Rattle.szl.specs.Outcome.{outcome_of_settings}
use Rattle.szl.specs.Records.{Cut}
use Rattle.szl.specs.ResumePromise.{IfKnown, IfRun, IsByJournal}
use Rattle.szl.specs.Resuming.{kept_job, source_of, outcome_of_resume}
use Rattle.szl.specs.Shards.{job_of}

-- a run by another number of workers, with second tickets for other shards, has the outcome of this one
abbrev pub RunForgetsTheWorkers : Type 0
RunForgetsTheWorkers =
    (s : RunSettings) (workers : ℕ) (twice : List ℕ) (file : FileReading) (reading : Reading) (cut : Cut) (merged : Merged)
    → outcome_of_settings (Some (Run (record s { workers = workers; twice = twice }))) file reading cut merged
    ≡ outcome_of_settings (Some (Run s)) file reading cut merged

-- a self test by another number of workers has the outcome of this one
abbrev pub SelftestForgetsTheWorkers : Type 0
SelftestForgetsTheWorkers =
    (seed records workers others : ℕ) (file : FileReading) (reading : Reading) (cut : Cut) (merged : Merged)
    → outcome_of_settings (Some (Selftest seed records others)) file reading cut merged
    ≡ outcome_of_settings (Some (Selftest seed records workers)) file reading cut merged

-- ---- jobs that are resumed

-- The job that is resumed may have this outcome, where its program and its `.proto` file have these bytes and are read so, the input and the journal
-- tell these bytes, if they do, and the call ends with this status
abbrev pub ResumesTo : RunSettings → (text proto : List ℕ) → FileReading → Reading → (input journal : Option (List ℕ)) → Status → Answer → Type 0
ResumesTo s text proto file reading input journal status outcome =
    IsByJournal s (IfRun s file reading) (kept_job s text proto) (outcome_of_resume s file reading) input journal (IfKnown status) outcome

-- each outcome that a job has by another number of workers it has by this one
abbrev pub ResumeForgetsTheWorkers : Type 0
ResumeForgetsTheWorkers =
    (s : RunSettings) (workers : ℕ) (text proto : List ℕ) (file : FileReading) (reading : Reading) (input journal : Option (List ℕ)) (status : Status)
    (outcome : Answer)
    → ResumesTo (record s { workers = workers }) text proto file reading input journal status outcome
    → ResumesTo s text proto file reading input journal status outcome

-- two settings are of one job: what its journal has of it is the same, and what is run, and over what
pub record AreOneJob (s other : RunSettings) : Type 0 where
  pub name : (program proto : List ℕ) → kept_job other program proto ≡ kept_job s program proto
  pub job : (program : Marked) (slots : List Slot) → job_of program slots other ≡ job_of program slots s
  pub source : (bytes : List ℕ) → source_of other bytes ≡ source_of s bytes

-- a job is the same by another number of workers, so that its journal is judged alike
abbrev pub JobForgetsTheWorkers : Type 0
JobForgetsTheWorkers = (s : RunSettings) (workers : ℕ) → AreOneJob s (record s { workers = workers })
