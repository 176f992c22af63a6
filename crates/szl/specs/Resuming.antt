-- The outcome of a job that is resumed: what its journal is decides before its records do, and else it is the outcome of the run.
use Rattle.std.specs.Prelude.{ℕ, ◌-◌, nat_lt, true, List, length, map, take, Result, Ok, Err, if◌then◌else◌}
use Rattle.sz_world_rules.specs.World.{Done, Faulted}
use Rattle.sz_world_rules.specs.World as world
use Rattle.sz_world_rules.specs.Slots.{Slot}
use Rattle.sz_mean.specs.Marked.{Marked}
use Rattle.sz_mean.specs.Programs.{statics}
use Rattle.sz_protofile.specs.Types.{TypeShape}
use Rattle.sz_protofile_types.specs.Readings.{FileReading}
use Rattle.sz_words.specs.declared.settings.Kill.{Kill}
use Rattle.sz_words.specs.declared.settings.RunSettings.{RunSettings}
use Rattle.sz_disk.specs.Entries.{end_of}
use Rattle.sz_journal.specs.declared.job.Triple.{Triple}
use Rattle.sz_journal.specs.declared.job.JobBytes.{JobBytes}
use Rattle.sz_journal.specs.declared.round.RoundEntry.{RoundEntry}
use Rattle.sz_journal.specs.Rounds.{last_progress}
use Rattle.sz_journal.specs.Journals.{Standing, Empty, OtherJob, DamagedAt, Spelled, entries_of}
use Rattle.sz_resume.specs.Standing.{Source}
use Rattle.szl.specs.declared.status.Status.TheVariants as status
use Rattle.sz_refusals.specs.declared.refusal.Refusal.{Refusal}
use Rattle.szl.specs.Answers.{Answer, refusal, other_job_line, journal_damaged_line}
use Rattle.szl.specs.Judgement.{Reading, refused, spells}
use Rattle.szl.specs.Outcome.{outcome_faulted, outcome_refused}
use Rattle.szl.specs.ProtoFiles.{outcome_of_file, after_file}
use Rattle.szl.specs.Savable.{savable}

-- a kill, as a journal has it
abbrev pub triple_of : Kill → Triple
triple_of kill = record { shard = kill.shard; number = kill.number; after = kill.after }

-- What a journal has of a job: what the words ask for, but for the number of workers and the names of the files, and the texts of the program and of
-- the `.proto` file. Two calls with the same are calls of the same job
abbrev pub kept_job : RunSettings → (program proto : List ℕ) → JobBytes
kept_job s program proto = record {
  frame = s.frame;
  shard = s.shard;
  attempts = s.attempts;
  budget = s.budget;
  ignoring = s.ignore_undefs;
  skip = s.skip;
  kills = map triple_of s.kills;
  doubled = s.twice;
  program = program;
  proto = proto;
}

-- what a job is run over, where its input has these bytes
abbrev pub source_of : RunSettings → List ℕ → Source
source_of s bytes = record { frame = s.frame; most = s.shard; bytes = bytes }

-- the place of the gate after which the entry of the last round stands
abbrev pub last_gate : JobBytes → List RoundEntry → ℕ
last_gate name rounds = end_of (entries_of name (take (length rounds - 1) rounds))

-- the answer to a journal that is damaged after the gate at a place, after so many files
abbrev pub damaged_after : ℕ → ℕ → Answer
damaged_after gate opens = refusal status.JournalDamaged (journal_damaged_line gate) opens

-- The answer by what the journal of a job is, over an input of so many bytes: another job's; or damaged; or its last round ends after the input; and
-- else this one
abbrev pub unless_journal : JobBytes → Standing → ℕ → Answer → Answer
unless_journal name OtherJob size rest = refusal status.OtherJob other_job_line 1
unless_journal name (DamagedAt gate) size rest = damaged_after gate 1
unless_journal name Empty size rest = rest
unless_journal name (Spelled rounds) size rest =
    if nat_lt size (last_progress rounds).bytes then damaged_after (last_gate name rounds) 2 else rest

-- the outcome of a job, by what its statics are: a fault in one decides before the journal does
abbrev pub outcome_after_statics : (Answer → Answer) → Answer → world.Outcome (List Slot) → Answer
outcome_after_statics journal rest (Faulted fault) = outcome_faulted 0 fault
outcome_after_statics journal rest (Done slots) = journal rest

-- the same of a program that can be run and saved, or its refusal
abbrev pub outcome_after_checked : ℕ → (Answer → Answer) → Answer → Result Marked Refusal → Answer
outcome_after_checked budget journal rest (Ok program) = outcome_after_statics journal rest (statics program budget)
outcome_after_checked budget journal rest (Err r) = outcome_refused r

-- the same of what was read where these types are known. Each round is saved, so that a program whose tables can't be is refused
abbrev pub outcome_after_read : RunSettings → (Answer → Answer) → Answer → Reading → List TypeShape → Answer
outcome_after_read s journal rest (refused r) types = outcome_refused r
outcome_after_read s journal rest (spells statements) types =
    outcome_after_checked s.budget journal rest (savable types true s.ignore_undefs statements)

-- The outcome of a job that is resumed, from the readings of its `.proto` file and of its program's text, what its journal makes of an answer, and
-- the answer after that: the first of the causes before it, in their order, or that
abbrev pub outcome_of_resume : RunSettings → FileReading → Reading → (Answer → Answer) → Answer → Answer
outcome_of_resume s file reading journal rest =
    after_file s.proto (outcome_of_file file (outcome_after_read s journal rest reading))
