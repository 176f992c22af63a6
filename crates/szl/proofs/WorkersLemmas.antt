-- No part of an outcome reads the number of workers, and that of a run not which shards have a second ticket.
use Rattle.std.proofs.Common.{◌≡◌, ℕ, List, [], Option, Some, None, Result, Ok, Err, refl}
use Rattle.sz_mean.specs.Marked.{Marked}
use Rattle.sz_mean.specs.Programs.{statics}
use Rattle.sz_protofile_types.specs.Readings.{FileReading, bad_file, with_types}
use Rattle.sz_protofile.specs.Types.{TypeShape}
use Rattle.sz_words.specs.declared.settings.RunSettings.{RunSettings}
use Rattle.sz_words.specs.declared.settings.Settings.TheVariants.{Run, Selftest}
use Rattle.sz_world_rules.specs.World.{Done, Faulted}
use Rattle.sz_world_rules.specs.World as world
use Rattle.sz_world_rules.specs.Slots.{Slot}
use Rattle.sz_refusals.specs.declared.refusal.Refusal.{Refusal}
use Rattle.szl.specs.declared.status.Status.{Status}
use Rattle.szl.specs.Answers.{Answer}
use Rattle.szl.specs.Judgement.{Reading, refused, spells}
use Rattle.szl.specs.Merging.{Merged}
use Rattle.szl.specs.Outcome.{outcome_of_statics, outcome_of_checked_run, outcome_of_run, outcome_of_settings}
use Rattle.szl.specs.ProtoFiles.{proto_asked, outcome_of_file, after_file}
use Rattle.szl.specs.Records.{Cut}
use Rattle.szl.specs.Savable.{savable}
use Rattle.szl.specs.Settings.{selftest_run}
use Rattle.szl.specs.Workers.{ResumesTo, AreOneJob}

module _ (s : RunSettings) (workers : ℕ) (twice : List ℕ) (cut : Cut) where
  -- the same settings but for these two
  abbrev others : RunSettings
  others = record s { workers = workers; twice = twice }

  same_statics : (program : Marked) (o : world.Outcome (List Slot)) → outcome_of_statics program others cut o ≡ outcome_of_statics program s cut o
  same_statics program (Faulted fault) = refl
  same_statics program (Done slots) = refl

  same_checked_run : (program : Result Marked Refusal) → outcome_of_checked_run others cut program ≡ outcome_of_checked_run s cut program
  same_checked_run (Ok program) = same_statics program (statics program s.budget)
  same_checked_run (Err r) = refl

  same_run : (types : List TypeShape) (reading : Reading) → outcome_of_run types others cut reading ≡ outcome_of_run types s cut reading
  same_run types (refused r) = refl
  same_run types (spells statements) = same_checked_run (savable types s.save s.ignore_undefs statements)

  -- the outcome is that of the settings as they are
  pub same_outcome_of_settings : (file : FileReading) (reading : Reading) (merged : Merged)
      → outcome_of_settings (Some (Run others)) file reading cut merged ≡ outcome_of_settings (Some (Run s)) file reading cut merged
  same_outcome_of_settings file reading merged i = after_file (proto_asked (Some (Run s))) (outcome_of_file file (λ types. same_run types reading i))

-- the outcome of a self test is that by any other number of workers
pub same_selftest : (seed records workers others : ℕ) (file : FileReading) (reading : Reading) (cut : Cut) (merged : Merged)
    → outcome_of_settings (Some (Selftest seed records others)) file reading cut merged
    ≡ outcome_of_settings (Some (Selftest seed records workers)) file reading cut merged
same_selftest seed records workers others file reading cut merged i =
    after_file None (outcome_of_file file (λ types. same_run (selftest_run workers) others [] cut types reading i))

-- ---- jobs that are resumed

-- a job has no number of workers
pub one_job : (s : RunSettings) (workers : ℕ) → AreOneJob s (record s { workers = workers })
one_job s workers = record { name = λ program proto. refl; job = λ program slots. refl; source = λ bytes. refl }

module _ (s : RunSettings) (workers : ℕ) where
  -- an outcome of the job that is resumed is one by this number of workers
  pub same_resumed : (text proto : List ℕ) (file : FileReading) (reading : Reading) (input journal : Option (List ℕ)) (status : Status)
      (outcome : Answer) → ResumesTo (record s { workers = workers }) text proto file reading input journal status outcome
      → ResumesTo s text proto file reading input journal status outcome
  same_resumed text proto (bad_file f) reading input journal status outcome h = record {
    input = h.input;
    cut = h.cut;
    is_cut = h.is_cut;
    of_input = h.of_input;
    standing = h.standing;
    stands = h.stands;
    rest = h.rest;
    is = h.is;
    behind = record { end = h.behind.end; ending = h.behind.ending; output = h.behind.output; is = h.behind.is; of_run = h.behind.of_run };
  }
  same_resumed text proto (with_types types) (refused r) input journal status outcome h = record {
    input = h.input;
    cut = h.cut;
    is_cut = h.is_cut;
    of_input = h.of_input;
    standing = h.standing;
    stands = h.stands;
    rest = h.rest;
    is = h.is;
    behind = record { end = h.behind.end; ending = h.behind.ending; output = h.behind.output; is = h.behind.is; of_run = h.behind.of_run };
  }
  same_resumed text proto (with_types types) (spells statements) input journal status outcome h = record {
    input = h.input;
    cut = h.cut;
    is_cut = h.is_cut;
    of_input = h.of_input;
    standing = h.standing;
    stands = h.stands;
    rest = h.rest;
    is = h.is;
    behind = record { end = h.behind.end; ending = h.behind.ending; output = h.behind.output; is = h.behind.is; of_run = h.behind.of_run };
  }
