-- What a run that saves its tables has written, part by part.
use Rattle.std.specs.Prelude.{◌≡◌, ℕ, ◌*◌, ⊤, true, List, length, Option, Some, IfSome}
use Rattle.std.specs.Io.KnownBytes.{Appends}
use Rattle.sz_io.specs.declared.files.Files as files
use Rattle.sz_io.specs.declared.sink.Sink as sink
use Rattle.sz_mean.specs.Marked.{all_tables}
use Rattle.sz_tabs.specs.Data.{EmitDatum}
use Rattle.sz_attempt.specs.declared.job.Job.{Job}
use Rattle.sz_records.specs.declared.ending.Ending.TheVariants.{Whole}
use Rattle.sz_workers.specs.Outcomes.{emitted, outcome_of}
use Rattle.sz_save_format.specs.Saved.{Saves}
use Rattle.sz_save.specs.Saving.{state_of_emits}
use Rattle.sz_words.specs.declared.settings.RunSettings.{RunSettings}
use Rattle.sz_words.specs.declared.settings.Settings.{Settings}
use Rattle.sz_words.specs.declared.settings.Settings.TheVariants.{Run}
use Rattle.sz_protofile.specs.Types.{TypeShape}
use Rattle.sz_protofile_types.specs.Readings.{with_types}
use Rattle.szl.specs.ProtoFiles.{IsFileRead, IsOfFile}
use Rattle.szl.specs.Records.{Cut, IsCutInto}
use Rattle.szl.specs.SavedRuns.{SavedRun}
use Rattle.szl.specs.Shards.{shards_in}

-- something is so of what the file of a name holds, where that is told
pub record OfHeld {F : Type 0} (the_files : files.Ghosts F) (name : List ℕ) (old : F) (IsSo : List ℕ → Type 0) : Type 0 where
  pub held : List ℕ
  pub holds : IfSome (the_files.held old name) (λ told. told ≡ held)
  pub so : IsSo held

-- the run of a job over this input came to its end, and these bytes are the saved file of its emits
pub record JobSaves (job : Job) (s : RunSettings) (input bytes : List ℕ) : Type 0 where
  pub cut : Cut
  pub is_cut : IsCutInto s.frame input cut
  pub whole : cut.ending ≡ Whole
  pub emits : List EmitDatum
  pub passed : ℕ
  pub ends : outcome_of job (shards_in s.shard cut.records) ≡ emitted emits passed
  pub saves : Saves bytes (state_of_emits (length cut.records * job.budget) (all_tables job.compiled) emits)

-- the run of the program and the input that settings name saved these bytes, where these types are known
abbrev pub SavesWith : {F : Type 0} → files.Ghosts F → List TypeShape → RunSettings → F → List ℕ → Type 0
SavesWith the_files types s old bytes =
    OfHeld the_files s.program old (λ text. OfHeld the_files s.input old (λ input. SavedRun types text s input bytes))

-- the run that settings ask for saved these bytes: by the types of the `.proto` file that they name, if they name one
pub record HasSaved {F : Type 0} (the_files : files.Ghosts F) (s : RunSettings) (old : F) (bytes : List ℕ) : Type 0 where
  pub file_bytes : List ℕ
  pub of_file : IsOfFile s.proto (the_files.held old) file_bytes
  pub types : List TypeShape
  pub file_read : IsFileRead file_bytes (with_types types)
  pub run : SavesWith the_files types s old bytes

-- something is so of the settings of a run that saves its tables
abbrev pub IfSaving : Option Settings → (RunSettings → Type 0) → Type 0
IfSaving (Some (Run s)) IsSo = s.save ≡ true → IsSo s
IfSaving _ IsSo = ⊤

-- a sink gained bytes of which something is so
pub record GainsSo (old new : Option (List ℕ)) (IsSo : List ℕ → Type 0) : Type 0 where
  pub bytes : List ℕ
  pub gained : Appends old new bytes
  pub so : IsSo bytes

-- where a run was to save its tables, the output gained what it has saved
abbrev pub SavesOutput : {F O : Type 0} → files.Ghosts F → sink.Ghosts O → Option Settings → F → O → O → Type 0
SavesOutput the_files the_out asked old out new_out =
    IfSaving asked (λ s. GainsSo (the_out.taken out) (the_out.taken new_out) (HasSaved the_files s old))
