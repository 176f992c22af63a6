-- Runs that came to their end: what they are, and what they answer.
use Rattle.std.proofs.Common.{◌≡◌, ◌∙◌, ℕ, List, length, Bool, true, false, refl, ap}
use Rattle.std.specs.Prelude.{Result, Ok, Err, Option, Some, None}
use Rattle.sz_tree.specs.Statements.{Stms}
use Rattle.sz_protofile.specs.Types.{TypeShape}
use Rattle.sz_core.specs.Programs.{tables_of}
use Rattle.sz_mean.specs.Marked.{Marked}
use Rattle.sz_mean.specs.Programs.{statics}
use Rattle.sz_world_rules.specs.World.{Outcome, Done, Faulted}
use Rattle.sz_world_rules.specs.Slots.{Slot}
use Rattle.sz_tabs.specs.Data.{EmitDatum}
use Rattle.sz_records.specs.declared.ending.Ending.{Ending}
use Rattle.sz_records.specs.declared.ending.Ending.TheVariants.{Whole, Damaged, Limit}
use Rattle.sz_workers.specs.Outcomes.{ShardsEnd, emitted, faulted, lost, outcome_of}
use Rattle.sz_words.specs.declared.settings.RunSettings.{RunSettings}
use Rattle.sz_refusals.specs.declared.refusal.Refusal.{Refusal}
use Rattle.szl.specs.declared.status.Status.TheVariants as status
use Rattle.szl.specs.Answers.{success}
use Rattle.szl.specs.Judgement.{Reading, refused, spells}
use Rattle.szl.specs.Records.{Cut}
use Rattle.szl.specs.Reserved.{runnable}
use Rattle.szl.specs.Savable.{savable, savable_so, unless_high, first_high}
use Rattle.szl.specs.Shards.{shards_in, job_of}
use Rattle.szl.specs.Outcome.{written, outcome_of_ending, outcome_of_shards, outcome_of_statics, outcome_of_checked_run, outcome_of_run}
use Rattle.szl.specs.SavedRuns.{Part, EndedRun}

-- a run of the program of these statements came to its end
pub record Finished (types : List TypeShape) (s : RunSettings) (cut : Cut) (ss : Stms) : Type 0 where
  pub program : Marked
  pub runs : savable types false s.ignore_undefs ss ≡ Ok program
  pub slots : List Slot
  pub begun : statics program s.budget ≡ Done slots
  pub emits : List EmitDatum
  pub passed : ℕ
  pub ends : outcome_of (job_of program slots s) (shards_in s.shard cut.records) ≡ emitted emits passed
  pub whole : cut.ending ≡ Whole

-- statements that can be run so that their tables are saved can be run so that they aren't
unsaved : (ss : Stms) (found : Result Marked Refusal) (program : Marked) → savable_so true ss found ≡ Ok program → savable_so false ss found ≡ Ok program
unsaved ss (Ok own) program is = by (first_high (tables_of own.core.items)) is
  where
    by : (high : Option _) → unless_high ss high own ≡ Ok program → savable_so false ss (Ok own) ≡ Ok program
    by None same = same
    by (Some d) same = absurd (cc)
unsaved ss (Err r) program is = is

-- so they can where they can with this flag or that
pub not_saving : (types : List TypeShape) (save ignoring : Bool) (ss : Stms) (program : Marked) → savable types save ignoring ss ≡ Ok program
    → savable types false ignoring ss ≡ Ok program
not_saving types true ignoring ss program is = unsaved ss (runnable types ignoring ss) program is
not_saving types false ignoring ss program is = is

-- ---- its parts, by its status

module _ (types : List TypeShape) (s : RunSettings) (cut : Cut) (ss : Stms) where
  module _ (program : Marked) (is : savable types s.save s.ignore_undefs ss ≡ Ok program) where
    by_ending : (slots : List Slot) → statics program s.budget ≡ Done slots → (emits : List EmitDatum) (passed : ℕ)
        → outcome_of (job_of program slots s) (shards_in s.shard cut.records) ≡ emitted emits passed → (ending : Ending) → cut.ending ≡ ending
        → (outcome_of_ending ending (written program s.save (length cut.records) s.budget emits)).status ≡ status.Done → Finished types s cut ss
    by_ending slots begun emits passed ends Whole whole done = record {
      program = program;
      runs = not_saving types s.save s.ignore_undefs ss program is;
      slots = slots;
      begun = begun;
      emits = emits;
      passed = passed;
      ends = ends;
      whole = whole;
    }
    by_ending slots begun emits passed ends (Damaged byte) whole done = absurd (cc)
    by_ending slots begun emits passed ends (Limit byte) whole done = absurd (cc)

    by_shards : (slots : List Slot) → statics program s.budget ≡ Done slots → (end : ShardsEnd)
        → outcome_of (job_of program slots s) (shards_in s.shard cut.records) ≡ end
        → (outcome_of_shards (written program s.save (length cut.records) s.budget) cut.ending end).status ≡ status.Done → Finished types s cut ss
    by_shards slots begun (emitted emits passed) ends done = by_ending slots begun emits passed ends cut.ending refl done
    by_shards slots begun (faulted number fault) ends done = absurd (cc)
    by_shards slots begun (lost shard) ends done = absurd (cc)

    by_statics : (outcome : Outcome (List Slot)) → statics program s.budget ≡ outcome → (outcome_of_statics program s cut outcome).status ≡ status.Done
        → Finished types s cut ss
    by_statics (Done slots) begun done = by_shards slots begun (outcome_of (job_of program slots s) (shards_in s.shard cut.records)) refl done
    by_statics (Faulted fault) begun done = absurd (cc)

  by_program : (found : Result Marked Refusal) → savable types s.save s.ignore_undefs ss ≡ found
      → (outcome_of_checked_run s cut found).status ≡ status.Done → Finished types s cut ss
  by_program (Ok program) is done = by_statics program is (statics program s.budget) refl done
  by_program (Err r) is done = absurd (cc)

module _ {types : List TypeShape} {text : List ℕ} where
  -- the text was read as these statements, and a run of them came to its end
  pub record EndedSo (run : EndedRun types text) : Type 0 where
    pub statements : Stms
    pub spelled : run.reading ≡ spells statements
    pub finished : Finished types run.settings run.cut statements

  pub ended_so : (run : EndedRun types text) → EndedSo run
  ended_so run = by run.reading refl run.ended
    where
      by : (reading : Reading) → run.reading ≡ reading → (outcome_of_run types run.settings run.cut reading).status ≡ status.Done → EndedSo run
      by (refused r) is done = absurd (cc)
      by (spells ss) is done = record {
        statements = ss;
        spelled = is;
        finished = by_program types run.settings run.cut ss (savable types run.settings.save run.settings.ignore_undefs ss) refl done;
      }

  -- a run that saved its tables came to its end
  abbrev pub part_finished : (part : Part types text) → Finished types part.settings part.run.tables.cut part.run.statements
  part_finished part =
      let t = part.run.tables in
      record {
        program = part.run.program;
        runs = not_saving types true part.settings.ignore_undefs part.run.statements part.run.program part.run.is;
        slots = t.slots;
        begun = t.begun;
        emits = t.emits;
        passed = t.passed;
        ends = t.ends;
        whole = t.whole;
      }

-- ---- what it answers

module _ {types : List TypeShape} {s : RunSettings} {cut : Cut} {ss : Stms} (f : Finished types s cut ss) where
  -- the program is the same with `--save` and without, where its tables can be saved
  pub savable_of : (save : Bool) → savable types true s.ignore_undefs ss ≡ Ok f.program → savable types save s.ignore_undefs ss ≡ Ok f.program
  savable_of true is = is
  savable_of false is = f.runs

  pub finished_answers : (save : Bool) → savable types save s.ignore_undefs ss ≡ Ok f.program
      → outcome_of_run types (record s { save = save }) cut (spells ss) ≡ success (written f.program save (length cut.records) s.budget f.emits)
  finished_answers save is =
      let own : RunSettings = record s { save = save } in
      let write = written f.program save (length cut.records) s.budget in
      ap (outcome_of_checked_run own cut) is ∙ ap (outcome_of_statics f.program own cut) f.begun
      ∙ ap (outcome_of_shards write cut.ending) f.ends ∙ ap (λ e. outcome_of_ending e (write f.emits)) f.whole
