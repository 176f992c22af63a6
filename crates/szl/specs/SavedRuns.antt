-- Runs that saved their tables, and what merging the files of several runs of one program comes to.
use Rattle.std.specs.Prelude.{◌≡◌, ℕ, ◌*◌, ◌≤◌, Bool, true, List, [], ◌∷◌, ◌++◌, length, map, Ok}
use Rattle.std.specs.List.{AllByRecursion}
use Rattle.std.specs.List.Sorted.{IsPermutation}
use Rattle.sz_tree.specs.Statements.{Stms}
use Rattle.sz_mean.specs.Marked.{Marked, all_tables}
use Rattle.sz_mean.specs.Programs.{statics}
use Rattle.sz_world_rules.specs.World.{Done}
use Rattle.sz_world_rules.specs.Slots.{Slot}
use Rattle.sz_tabs.specs.Data.{EmitDatum}
use Rattle.sz_records.specs.declared.ending.Ending.TheVariants.{Whole}
use Rattle.sz_words.specs.declared.settings.RunSettings.{RunSettings}
use Rattle.sz_words.specs.Bounds.{HasBounds}
use Rattle.sz_workers.specs.Outcomes.{emitted, outcome_of}
use Rattle.sz_save_format.specs.Saved.{Saves}
use Rattle.sz_save.specs.Saving.{state_of_emits}
use Rattle.sz_protofile.specs.Types.{TypeShape}
use Rattle.szl.specs.declared.status.Status.TheVariants as status
use Rattle.szl.specs.Judgement.{Reading, IsRead, spells}
use Rattle.szl.specs.Savable.{savable}
use Rattle.szl.specs.Records.{Cut, IsCutInto}
use Rattle.szl.specs.Shards.{shards_in, job_of}
use Rattle.szl.specs.Answers.{Answer, Says, success}
use Rattle.szl.specs.Outcome.{outcome_of_run}
use Rattle.szl.specs.Merging.{Merged, IsMerged, outcome_of_merge, most_saved_bytes}

-- A run of the program over this input came to its end, and these bytes are the saved file of its emits: no static faults, no shard decides, and the
-- input ends with its records, the ticks of which are the bound
pub record SavesTables (program : Marked) (s : RunSettings) (input bytes : List ℕ) : Type 0 where
  pub bounds : HasBounds s
  pub cut : Cut
  pub is_cut : IsCutInto s.frame input cut
  pub whole : cut.ending ≡ Whole
  pub slots : List Slot
  pub begun : statics program s.budget ≡ Done slots
  pub emits : List EmitDatum
  pub passed : ℕ
  pub ends : outcome_of (job_of program slots s) (shards_in s.shard cut.records) ≡ emitted emits passed
  pub saves : Saves bytes (state_of_emits (length cut.records * s.budget) (all_tables program) emits)

-- the same of the program that a text spells, where these types are known
pub record SavedRun (types : List TypeShape) (text : List ℕ) (s : RunSettings) (input bytes : List ℕ) : Type 0 where
  pub statements : Stms
  pub read : IsRead text (spells statements)
  pub program : Marked
  pub is : savable types true s.ignore_undefs statements ≡ Ok program
  pub tables : SavesTables program s input bytes

-- ---- several runs of one program, and one run over all their records

-- a run of the program of a text that saved its tables, where these types are known: what it was asked for, its input, and what it saved
pub record Part (types : List TypeShape) (text : List ℕ) : Type 0 where
  pub settings : RunSettings
  pub input : List ℕ
  pub bytes : List ℕ
  pub run : SavedRun types text settings input bytes

-- a run of the program of a text that came to its end, whether it saved its tables or not: its answer has status 0
pub record EndedRun (types : List TypeShape) (text : List ℕ) : Type 0 where
  pub settings : RunSettings
  pub reading : Reading
  pub read : IsRead text reading
  pub input : List ℕ
  pub cut : Cut
  pub is_cut : IsCutInto settings.frame input cut
  pub ended : (outcome_of_run types settings cut reading).status ≡ status.Done

module _ {types : List TypeShape} {text : List ℕ} where
  -- the records of runs, one input after the other
  abbrev pub all_records : List (Part types text) → List (List ℕ)
  all_records [] = []
  all_records (part ∷ parts) = part.run.tables.cut.records ++ all_records parts

  -- what they saved
  abbrev pub files_of : List (Part types text) → List (List ℕ)
  files_of parts = map (λ (part : Part types text). part.bytes) parts

  -- a run has the budget of the whole one, ignores undefined values if that does, and saved no more bytes than a saved file may have
  pub record IsPartOf (whole : EndedRun types text) (part : Part types text) : Type 0 where
    pub budget : part.settings.budget ≡ whole.settings.budget
    pub ignoring : part.settings.ignore_undefs ≡ whole.settings.ignore_undefs
    pub short : length part.bytes ≤ most_saved_bytes

  -- the whole run has all records of the parts, their inputs one after the other in some order
  pub record ArePartsOf (whole : EndedRun types text) (parts : List (Part types text)) : Type 0 where
    pub each : AllByRecursion (IsPartOf whole) parts
    pub inputs : List (Part types text)
    pub moved : IsPermutation parts inputs
    pub records : all_records inputs ≡ whole.cut.records

  -- what that run answers with `--save` or without
  abbrev pub answer_of : Bool → EndedRun types text → Answer
  answer_of save whole = outcome_of_run types (record whole.settings { save = save }) whole.cut whole.reading

-- merging what the parts saved answers what the whole run does, with `--save` and without, whatever the order of the files
abbrev pub MergesToOneRun : Type 0
MergesToOneRun =
    (types : List TypeShape) (text : List ℕ) (whole : EndedRun types text) (parts : List (Part types text)) (merged : Merged) (save : Bool)
    → ArePartsOf whole parts → IsMerged (files_of parts) merged → Says (outcome_of_merge (length parts) save merged) (answer_of save whole)

-- what a run with `--save` answers is what it saved
abbrev pub SavesItsAnswer : Type 0
SavesItsAnswer =
    (types : List TypeShape) (text : List ℕ) (s : RunSettings) (input bytes : List ℕ) (run : SavedRun types text s input bytes)
    → outcome_of_run types (record s { save = true }) run.tables.cut (spells run.statements) ≡ success bytes
