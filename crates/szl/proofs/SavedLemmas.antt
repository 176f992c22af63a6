-- What a run that saves its tables has written: from the tables of its input up to the command line.
use Rattle.std.proofs.Common.{◌≡◌, ◌≤◌, ◌*◌, ℕ, List, [], length, Option, Some, None, refl, sym, ap, ◌∙◌, subst, true}
use Rattle.std.specs.Prelude.{Result, Ok, Err, Vec, IfOk, IfSome, ⊤}
use Rattle.sz_io.specs.Opened.{KeepsFiles}
use Rattle.sz_io.specs.declared.files.Files as files
use Rattle.sz_tree.specs.Statements.{Stms}
use Rattle.sz_mean.specs.Marked.{Marked, all_tables}
use Rattle.sz_mean.specs.Programs.{statics}
use Rattle.sz_world_rules.specs.World.{Done}
use Rattle.sz_world_rules.specs.Slots.{Slot}
use Rattle.sz_tabs.specs.Data.{EmitDatum}
use Rattle.sz_total.specs.States.{declarations, emit_count, shown}
use Rattle.sz_total.specs.Totals.{StandsFor}
use Rattle.sz_attempt.specs.declared.job.Job.{Job}
use Rattle.sz_workers.specs.Outcomes.{outcome_of}
use Rattle.sz_save_format.specs.Saved.{Saves}
use Rattle.sz_save.specs.Saving.{state_of_emits}
use Rattle.sz_stream.specs.declared.tables.InputTables.{InputTables}
use Rattle.sz_stream.specs.Inputs.{RunsInput, RunsFile}
use Rattle.sz_words.specs.declared.settings.RunSettings.{RunSettings}
use Rattle.sz_words.specs.declared.settings.Settings.{Settings}
use Rattle.sz_words.specs.declared.settings.Settings.TheVariants.{Run}
use Rattle.sz_words.specs.Bounds.{HasBounds}
use Rattle.sz_protofile.specs.Types.{TypeShape}
use Rattle.sz_protofile_types.specs.Readings.{with_types}
use Rattle.szl.specs.declared.failure.Failure.{Failure}
use Rattle.szl.specs.Opening.{ReadsText}
use Rattle.sz_refusals.specs.Texts.{IsShort, HasStatements}
use Rattle.szl.specs.Printing.{Prints}
use Rattle.szl.specs.ProgramRuns.{IsJobOf, vec_items_of}
use Rattle.szl.specs.ProtoFiles.{IsFileRead, IsOfFile}
use Rattle.szl.specs.ProtoReads.{GivesTypes}
use Rattle.szl.specs.Savable.{savable}
use Rattle.szl.specs.SavedRuns.{SavesTables, SavedRun}
use Rattle.szl.specs.Saving.{OfHeld, JobSaves, SavesWith, HasSaved, IfSaving, GainsSo}
use Rattle.szl.specs.Shards.{shard_sizes, shards_in, job_of}
use Rattle.szl.proofs.AnswerLemmas.{cut_of, same_outcome}
use Rattle.szl.proofs.EndingLemmas.{picks}
use Rattle.szl.proofs.ProtoLemmas.{empty_file}
use Rattle.szl.proofs.ShardLemmas.{sizes_are_shards}

-- what follows of a result follows where there is one
pub map_ok : {A E : Type 0} {P Q : A → Type 0} (r : Result A E) → ((x : A) → P x → Q x) → IfOk r P → IfOk r Q
map_ok (Ok x) follows h = follows x h
map_ok (Err e) follows h = tt

pub saves_nothing : {A E : Type 0} (r : Result A E) → IfOk r (λ _. ⊤)
saves_nothing (Ok x) = tt
saves_nothing (Err e) = tt

module _ (job : Job) (s : RunSettings) (low : 1 ≤ s.shard) (tables : InputTables) (bytes : List ℕ)
    (told : (emits : List EmitDatum) → StandsFor declarations emit_count shown tables.total emits
    → Saves bytes (state_of_emits (tables.records * job.budget) (all_tables job.compiled) emits)) where
  -- an input was run to its end
  input_saves : (input : List ℕ) → RunsInput job s.shard s.frame input (Ok tables) → JobSaves job s input bytes
  input_saves input runs =
      let c = cut_of s.frame input in
      let h = runs c.cut.records c.cut.ending (shard_sizes s.shard c.cut.records) c.is_cut (sizes_are_shards s.shard c.cut.records low) in
      record {
        cut = c.cut;
        is_cut = c.is_cut;
        whole = h.whole;
        emits = h.emits;
        passed = h.passed;
        ends = h.given;
        saves = subst (λ n. Saves bytes (state_of_emits (n * job.budget) (all_tables job.compiled) h.emits)) h.counted (told h.emits h.stand.stands);
      }

-- that of the file of the settings was
pub file_saves : {F : Type 0} (the_files : files.Ghosts F) (job : Job) (s : RunSettings) → 1 ≤ s.shard → (tables : InputTables) (old : F)
    (before after : Option (List ℕ)) → before ≡ the_files.held old s.input → RunsFile job s.shard s.frame before after (Ok tables) → (bytes : List ℕ)
    → ((emits : List EmitDatum) → StandsFor declarations emit_count shown tables.total emits
    → Saves bytes (state_of_emits (tables.records * job.budget) (all_tables job.compiled) emits))
    → OfHeld the_files s.input old (λ input. JobSaves job s input bytes)
file_saves the_files job s low tables old before after is r bytes told =
    let p = picks before after r.read r.over r.consumed r.at_end in
    record {
      held = p.input;
      holds = subst (λ h. IfSome h (λ b. b ≡ p.input)) is p.holds;
      so = input_saves job s low tables bytes told p.input (r.runs p.input p.on);
    }

-- the job is that of a program
pub program_saves : {F : Type 0} (the_files : files.Ghosts F) (program : Marked) (s : RunSettings) → HasBounds s → (slots : List Slot)
    → statics program s.budget ≡ Done slots → (job : Job) → IsJobOf program slots s job → (old : F) (bytes : List ℕ)
    → OfHeld the_files s.input old (λ input. JobSaves job s input bytes) → OfHeld the_files s.input old (λ input. SavesTables program s input bytes)
program_saves the_files program s bounds slots begun job is old bytes h =
    let j = h.so in
    let shards = shards_in s.shard j.cut.records in
    record {
      held = h.held;
      holds = h.holds;
      so = record {
        bounds = bounds;
        cut = j.cut;
        is_cut = j.is_cut;
        whole = j.whole;
        slots = slots;
        begun = begun;
        emits = j.emits;
        passed = j.passed;
        ends = sym (ap (λ k. outcome_of k shards) is.same ∙ same_outcome (job_of program slots s) job.twice 0 shards) ∙ j.ends;
        saves = subst (λ (k : Job). Saves bytes (state_of_emits (length j.cut.records * k.budget) (all_tables k.compiled) j.emits)) is.same j.saves;
      };
    }

-- the program is that of a text
pub run_saves : {F : Type 0} (the_files : files.Ghosts F) (types : List TypeShape) (text : List ℕ) (s : RunSettings) (old : F) (ss : Stms)
    (program : Marked) → IsShort text → HasStatements text ss → s.save ≡ true → savable types s.save s.ignore_undefs ss ≡ Ok program → (bytes : List ℕ)
    → OfHeld the_files s.input old (λ input. SavesTables program s input bytes)
    → OfHeld the_files s.input old (λ input. SavedRun types text s input bytes)
run_saves the_files types text s old ss program short has saving is bytes h = record {
  held = h.held;
  holds = h.holds;
  so = record {
    statements = ss;
    read = (short, has);
    program = program;
    is = subst (λ save. savable types save s.ignore_undefs ss ≡ Ok program) saving is;
    tables = h.so;
  };
}

-- the text was read before the input
pub text_saves : {F : Type 0} (the_files : files.Ghosts F) (types : List TypeShape) (s : RunSettings) (name : List ℕ) → name ≡ s.program → (old mid : F)
    → KeepsFiles the_files.held the_files.left the_files.given the_files.faults old mid → (text : List ℕ) (limit : ℕ) (past : Failure) (rose : Type 0)
    → ReadsText (the_files.held old name) limit past rose (Ok text) → (read : List ℕ) → read ≡ text → (bytes : List ℕ)
    → OfHeld the_files s.input mid (λ input. SavedRun types read s input bytes) → SavesWith the_files types s old bytes
text_saves the_files types s name is old mid kept text limit past rose reads read same bytes h =
    let told = subst (λ n. IfSome (the_files.held old n) (λ told. told ≡ reads.text)) is reads.holds in
    record {
      held = read;
      holds = subst (λ t. IfSome (the_files.held old s.program) (λ told. told ≡ t)) (sym (same ∙ reads.tells.0)) told;
      so = record { held = h.held; holds = subst (λ o. IfSome o (λ told. told ≡ h.held)) (kept.held_same s.input) h.holds; so = h.so };
    }

-- the `.proto` file was read before both
module _ {F : Type 0} (the_files : files.Ghosts F) (old mid : F) (types : List TypeShape) where
  record HasFile (name : Option (List ℕ)) : Type 0 where
    bytes : List ℕ
    of : IsOfFile name (the_files.held old) bytes
    read : IsFileRead bytes (with_types types)

  file_of_types : (name : Option (List ℕ)) → GivesTypes the_files name old mid (Ok types) → HasFile name
  file_of_types None h =
      let none : types ≡ [] = cc in
      record { bytes = []; of = refl; read = subst (λ ts. IsFileRead [] (with_types ts)) (sym none) empty_file }
  file_of_types (Some name) h = record { bytes = h.bytes; of = h.holds; read = h.tells }

pub types_save : {F : Type 0} (the_files : files.Ghosts F) (s : RunSettings) (old mid : F) (types : List TypeShape)
    → GivesTypes the_files s.proto old mid (Ok types) → KeepsFiles the_files.held the_files.left the_files.given the_files.faults old mid
    → (bytes : List ℕ) → SavesWith the_files types s mid bytes → HasSaved the_files s old bytes
types_save the_files s old mid types given kept bytes h =
    let file = file_of_types the_files old mid types s.proto given in
    record {
      file_bytes = file.bytes;
      of_file = file.of;
      types = types;
      file_read = file.read;
      run = record {
        held = h.held;
        holds = subst (λ o. IfSome o (λ told. told ≡ h.held)) (kept.held_same s.program) h.holds;
        so = record {
          held = h.so.held;
          holds = subst (λ o. IfSome o (λ told. told ≡ h.so.held)) (kept.held_same s.input) h.so.holds;
          so = h.so.so;
        };
      };
    }

-- all of it was printed
pub printed_saves : {F A : Type 0} (the_files : files.Ghosts F) (taken taken_now : Option (List ℕ)) (old : F) (asked : Option Settings)
    (answer : Result (Vec ℕ A) Failure) (done : Unit {0}) → Prints {T = Unit {0}} taken taken_now (vec_items_of answer) (Ok done)
    → IfOk answer (λ bytes. IfSaving asked (λ s. HasSaved the_files s old bytes.items))
    → IfSaving asked (λ s. GainsSo taken taken_now (HasSaved the_files s old))
printed_saves the_files taken taken_now old asked (Err f) done printed saves = absurd printed
printed_saves the_files taken taken_now old (Some (Run s)) (Ok v) done printed saves =
    λ saving. record { bytes = v.items; gained = printed; so = saves saving }
printed_saves the_files taken taken_now old _ (Ok v) done printed saves = tt
