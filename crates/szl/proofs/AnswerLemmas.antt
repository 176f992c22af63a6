-- How the answer for a command line is put together: from the program's text, the program, and the input.
use Rattle.std.proofs.Common.{◌≡◌, ◌≢◌, ℕ, zero, suc, ◌+◌, ◌-◌, ◌≤◌, List, [], ◌∷◌, ◌++◌, length, take, drop, Bool, true, false, Option, Some, None}
use Rattle.std.proofs.Common.{refl, sym, ap, ◌∙◌, subst, arith}
use Rattle.std.specs.Prelude.{unwrap_or, Result, Ok, Err, slice_get, nat_le, ◌&&◌, if◌then◌else◌}
use Rattle.std.proofs.lemmas.List.Elements.{filter_agree}
use Rattle.sz_types.specs.declared.frame.Frame.{Frame}
use Rattle.sz_protofile.specs.Types.{TypeShape}
use Rattle.sz_io.specs.Rose.{Rose}
use Rattle.sz_io.specs.declared.files.Files as files
use Rattle.sz_tree.specs.Statements.{Stms}
use Rattle.sz_core.specs.Programs.{Core}
use Rattle.sz_mean.specs.Marked.{Marked}
use Rattle.szl.specs.Savable.{savable}
use Rattle.sz_world_rules.specs.World.{Fault, Outcome, Done, Faulted}
use Rattle.sz_world_rules.specs.Slots.{Slot}
use Rattle.sz_mean.specs.Programs.{mean, statics}
use Rattle.sz_tabs.specs.Data.{EmitDatum}
use Rattle.sz_records.specs.declared.ending.Ending.{Ending}
use Rattle.sz_records.specs.declared.ending.Ending.TheVariants.{Whole, Damaged, Limit}
use Rattle.sz_records.proofs.CutLaws.{every_file_is_cut}
use Rattle.sz_machine.specs.Ends.{seen_fault}
use Rattle.sz_words.specs.declared.settings.RunSettings.{RunSettings}
use Rattle.sz_attempt.specs.declared.job.Job.{Job}
use Rattle.sz_attempt.specs.Shards.{ShardData, IsJob}
use Rattle.sz_core.specs.Sound.{IsSound}
use Rattle.sz_world_rules.specs.Typed.{AllFit}
use Rattle.sz_gen_rules.specs.Simulates.{static_types}
use Rattle.sz_words.specs.Bounds.{HasBounds}
use Rattle.sz_attempt.specs.Yields.{Faulting, Yield, both, yield_of, means}
use Rattle.sz_attempt.specs.Attempts.{shard_means, passes, has_effect, deaths_of, least_of, kills_of, end_by, is_lost, all_die, dies_at, end_of}
use Rattle.sz_workers.specs.Outcomes.{ShardsEnd, emitted, faulted, lost, then_shards, outcome_from, outcome_of}
use Rattle.sz_workers.specs.Cuts.{cut_into}
use Rattle.szl.specs.declared.status.Status.TheVariants as status
use Rattle.szl.specs.declared.failure.Failure.{Failure}
use Rattle.szl.specs.declared.failure.Failure.TheVariants as failure
use Rattle.szl.specs.Opening.{status_of_answer, Decides, AnswersOn, AnswersText, AnswersCheck}
use Rattle.szl.specs.Answers.{Answer, success}
use Rattle.szl.specs.Outcome.{written, outcome_faulted, outcome_of_shards, outcome_of_statics, outcome_of_program}
use Rattle.szl.specs.Outcome.{outcome_of_checked_run, outcome_of_checked}
use Rattle.szl.specs.Checking.{checked}
use Rattle.sz_refusals.specs.Texts.{IsShort, HasStatements}
use Rattle.szl.specs.Judgement.{refused, spells}
use Rattle.szl.specs.Judging.{IsFailureOf, IsFailureOn}
use Rattle.szl.specs.Failing.{status_of}
use Rattle.szl.specs.Promise.{IfRead, OpensFiles}
use Rattle.szl.specs.Records.{Cut, IsCutInto}
use Rattle.sz_records.specs.Cutting.{full}
use Rattle.szl.specs.Shards.{shard_sizes, shards_in, job_of}
use Rattle.szl.specs.ProgramRuns.{GivesStatics, GivesFile, IsJobOf}
use Rattle.szl.proofs.JudgementLemmas.{every_text_is_read}
use Rattle.szl.proofs.OpeningLemmas.{holds_or}
use Rattle.szl.proofs.OpenedLemmas.{opened_none}
use Rattle.szl.proofs.SaysLemmas.{says}

-- how an input is cut
pub record HasRecords (frame : Frame) (input : List ℕ) : Type 0 where
  pub cut : Cut
  pub is_cut : IsCutInto frame input cut

pub cut_of : (frame : Frame) (input : List ℕ) → HasRecords frame input
cut_of frame input =
    let c = every_file_is_cut frame full input in
    record { cut = record { records = c.records; ending = c.ending }; is_cut = c.cut }

-- a record that faults has a number from 1
module _ (job : Job) where
  at_least : (n i : ℕ) (o : Outcome (List EmitDatum)) (rest : List Faulting) (one : Faulting)
      → ((j : ℕ) → slice_get rest j ≡ Some one → suc n ≤ one.number)
      → slice_get ((yield_of n o).faults ++ rest) i ≡ Some one → n ≤ one.number
  at_least n i (Done es) rest one later got = let le = later i got in omega (arith, le)
  at_least n zero (Faulted f) rest one later got = let same = number_of n f one got in omega (arith, same)
    where
      number_of : (n : ℕ) (f : Fault) (one : Faulting) → Some (record { number = n; fault = f }) ≡ Some one → n ≡ one.number
      number_of n f one e = cc
  at_least n (suc i) (Faulted f) rest one later got = let le = later i got in omega (arith, le)

  -- records that fault have numbers from that of the first record on
  numbered_on : (n i : ℕ) (records : List (List ℕ)) (one : Faulting) → slice_get (means job n records).faults i ≡ Some one → n ≤ one.number
  numbered_on n i [] one got = absurd (cc)
  numbered_on n i (r ∷ rs) one got =
      at_least n i (mean job.compiled job.statics job.budget r) (means job (suc n) rs).faults one (λ j. numbered_on (suc n) j rs one) got

  same_number : (k m : ℕ) (f g : Fault) → faulted m g ≡ faulted k f → m ≡ k
  same_number k m f g e = cc

  pub fault_is_numbered : (passed number first : ℕ) (records : List (List ℕ)) (sizes : List ℕ) → 1 ≤ first → (k : ℕ) (f : Fault)
      → outcome_from job passed (cut_into number first records sizes) ≡ faulted k f → 1 ≤ k
  fault_is_numbered passed number first records [] low k f e = absurd (cc)
  fault_is_numbered passed number first records (size ∷ sizes) low k f e =
      by (is_lost job shard) (slice_get (shard_means job shard).faults (job.skip - passed)) refl (outcome_from job after rest)
      (fault_is_numbered after (suc number) (first + size) (drop size records) sizes (omega (arith, low))) e
    where
      shard : ShardData
      shard = record { number = number; first = first; records = take size records }

      after : ℕ
      after = passed + length (shard_means job shard).faults

      rest : List ShardData
      rest = cut_into (suc number) (first + size) (drop size records) sizes

      by : (b : Bool) (o : Option Faulting) → slice_get (shard_means job shard).faults (job.skip - passed) ≡ o → (end : ShardsEnd)
          → ((m : ℕ) (g : Fault) → end ≡ faulted m g → 1 ≤ m)
          → (if b then lost number else then_shards (shard_means job shard) o end) ≡ faulted k f → 1 ≤ k
      by true o got end later h = absurd (cc)
      by false (Some one) got end later h =
          let le = numbered_on first (job.skip - passed) (take size records) one got in
          let same = same_number k one.number f one.fault h in
          omega (arith, le, low, same)
      by false None got (emitted gs n) later h = absurd (cc)
      by false None got (lost m) later h = absurd (cc)
      by false None got (faulted m g) later h =
          let le = later m g refl in
          let same = same_number k m f g h in
          omega (arith, le, same)

-- which shards are doubled changes nothing
module _ (job : Job) (twice : List ℕ) where
  abbrev doubled : Job
  doubled = record job { twice = twice }

  means_still : (n : ℕ) (records : List (List ℕ)) → means doubled n records ≡ means job n records
  means_still n [] = refl
  means_still n (r ∷ rs) = ap (both (yield_of n (mean job.compiled job.statics job.budget r))) (means_still (suc n) rs)

  effect_still : (shard : ShardData) (after : ℕ) → has_effect doubled shard after ≡ has_effect job shard after
  effect_still shard after =
      ap (λ y. nat_le after (length shard.records) && passes job.skip y) (means_still shard.first (take after shard.records))

  end_still : (shard : ShardData) (k : ℕ) → end_of doubled shard k ≡ end_of job shard k
  end_still shard k =
      ap (λ js. end_by job.skip (least_of js) (shard_means doubled shard))
      (filter_agree (has_effect doubled shard) (has_effect job shard) (effect_still shard) (kills_of shard.number k job.kills))
      ∙ ap (end_by job.skip (least_of (deaths_of job shard k))) (means_still shard.first shard.records)

  all_die_still : (shard : ShardData) (n : ℕ) → all_die doubled shard n ≡ all_die job shard n
  all_die_still shard zero = refl
  all_die_still shard (suc n) =
      ap (λ e. dies_at e && all_die doubled shard n) (end_still shard n) ∙ ap (λ b. dies_at (end_of job shard n) && b) (all_die_still shard n)

  pub same_outcome : (passed : ℕ) (shards : List ShardData) → outcome_from doubled passed shards ≡ outcome_from job passed shards
  same_outcome passed [] = refl
  same_outcome passed (s ∷ shards) =
      ap (λ y. step (is_lost doubled s) y (outcome_from doubled (passed + length y.faults) shards)) (means_still s.first s.records)
      ∙ ap (λ b. step b (shard_means job s) (outcome_from doubled after shards)) (all_die_still s job.attempts)
      ∙ ap (step (is_lost job s) (shard_means job s)) (same_outcome after shards)
    where
      after : ℕ
      after = passed + length (shard_means job s).faults

      step : Bool → Yield → ShardsEnd → ShardsEnd
      step b y end = if b then lost s.number else then_shards y (slice_get y.faults (job.skip - passed)) end

-- the outcome of shards opens two files, and is no bad command line
opens_two : (write : List EmitDatum → List ℕ) (ending : Ending) (o : ShardsEnd) → ((k : ℕ) (f : Fault) → o ≡ faulted k f → 1 ≤ k)
    → (outcome_of_shards write ending o).opens ≡ 2
opens_two write Whole (emitted es n) numbered = refl
opens_two write (Damaged byte) (emitted es n) numbered = refl
opens_two write (Limit byte) (emitted es n) numbered = refl
opens_two write ending (faulted zero f) numbered = let le = numbered 0 f refl in absurd (omega (arith, le))
opens_two write ending (faulted (suc k) f) numbered = refl
opens_two write ending (lost n) numbered = refl

pub no_usage : (write : List EmitDatum → List ℕ) (ending : Ending) (o : ShardsEnd) → (outcome_of_shards write ending o).status ≢ status.Usage
no_usage write Whole (emitted es n) = λ e. cc
no_usage write (Damaged byte) (emitted es n) = λ e. cc
no_usage write (Limit byte) (emitted es n) = λ e. cc
no_usage write ending (faulted k f) = λ e. cc
no_usage write ending (lost n) = λ e. cc

-- what was compiled makes a job, with its statics, within the bounds of settings
pub is_job : (program : Marked) (slots : List Slot) (s : RunSettings) (job : Job) → IsJobOf program slots s job → IsSound program.core
    → AllFit slots (static_types program.core) → HasBounds s → IsJob job
is_job program slots s job is sound fit bounds =
    subst IsJob (sym is.same)
    (record { sound = sound; statics = fit; budget = record { least = bounds.least_budget; most = bounds.most_budget } })

-- a decision without a count that rose is one whatever rose
pub decides_still : (answer : Result (List ℕ) Failure) (outcome : Answer) (rose : Type 0) → Decides answer outcome ⊥ → Decides answer outcome rose
decides_still (Ok output) outcome rose h = h
decides_still (Err failure.ReadFailed) outcome rose h = absurd h.0
decides_still (Err _) outcome rose h = h

-- and no read failed
pub not_read : (answer : Result (List ℕ) Failure) (outcome : Answer) → Decides answer outcome ⊥ → status_of_answer answer ≢ status.ReadFailed
not_read (Ok output) outcome h = λ e. cc
not_read (Err failure.ReadFailed) outcome h = absurd h.0
not_read (Err failure.WriteFailed) outcome h = absurd h
not_read (Err failure.DiskFailed) outcome h = absurd h
not_read (Err _) outcome h = λ e. cc

module _ {F : Type 0} (the_files : files.Ghosts F) (frame : Frame) (name : List ℕ) (old : F) where
  -- a failure before the input is opened
  answers_unopened : (outcome_on : Cut → Answer) (f : Failure) → status_of f ≢ status.ReadFailed
      → ((cut : Cut) → IfRead (status_of f) ((outcome_on cut).opens ≡ 1))
      → ((cut : Cut) → Decides (Err f) (outcome_on cut) (Rose (the_files.faults old) (the_files.faults old)))
      → AnswersOn the_files frame outcome_on name old old (Err f)
  answers_unopened outcome_on f other one decides =
      let input = unwrap_or (the_files.held old name) [] in
      let c = cut_of frame input in
      record {
        input = input;
        cut = c.cut;
        is_cut = c.is_cut;
        holds = holds_or (the_files.held old name) [];
        decides = decides c.cut;
        opened = opened_none the_files old (name ∷ []) _ (status_of f) other
            (λ read memory. ap (λ n. take (n - 1) (name ∷ [])) (sym (one c.cut read memory)));
      }

  -- there was no memory for the code
  pub no_code : (outcome_on : Cut → Answer) → AnswersOn the_files frame outcome_on name old old (Err failure.NoMemory)
  no_code outcome_on = answers_unopened outcome_on failure.NoMemory (λ e. cc) (λ cut read memory. absurd (memory refl)) (λ cut. tt)

  -- a static faults
  pub static_fails : (program : Marked) (s : RunSettings) (f : Failure) → GivesStatics program s.budget (Err f)
      → AnswersOn the_files frame (outcome_of_program program s) name old old (Err f)
  static_fails program s (failure.Faulted n f) h =
      answers_unopened _ (failure.Faulted n f) (λ e. cc)
      (λ cut read memory. ap (λ (o : Answer). o.opens) (ap (outcome_of_statics program s cut) h.1))
      (λ cut. says (ap (outcome_of_statics program s cut) h.1 ∙ ap (λ k. outcome_faulted k (seen_fault f)) (sym h.0)))
  static_fails program s failure.NoMemory h = no_code _
  static_fails program s _ h = absurd h

-- the statics are these
module _ (program : Marked) (s : RunSettings) (slots : List Slot) (begun : statics program s.budget ≡ Done slots) where
  abbrev of_cut : Cut → ShardsEnd
  of_cut cut = outcome_of (job_of program slots s) (shards_in s.shard cut.records)

  -- what is written of the emits
  abbrev write_of : Cut → List EmitDatum → List ℕ
  write_of cut = written program s.save (length cut.records) s.budget

  on_shards : (cut : Cut) → outcome_of_program program s cut ≡ outcome_of_shards (write_of cut) cut.ending (of_cut cut)
  on_shards cut = ap (outcome_of_statics program s cut) begun

  pub one_left : (cut : Cut) → 1 ≡ (outcome_of_program program s cut).opens - 1
  one_left cut =
      let two = ap (λ (a : Answer). a.opens) (on_shards cut)
      ∙ opens_two (write_of cut) cut.ending (of_cut cut)
      (λ k f e. fault_is_numbered (job_of program slots s) 0 0 1 cut.records (shard_sizes s.shard cut.records) (omega arith) k f e) in omega (arith, two)

  -- the job has this outcome
  pub of_job : (job : Job) → IsJobOf program slots s job → (cut : Cut)
      → outcome_of_shards (written job.compiled s.save (length cut.records) job.budget) cut.ending (outcome_of job (shards_in s.shard cut.records))
      ≡ outcome_of_program program s cut
  of_job job is cut =
      ap (λ (j : Job). outcome_of_shards (written j.compiled s.save (length cut.records) j.budget) cut.ending
      (outcome_of j (shards_in s.shard cut.records))) is.same
      ∙ ap (outcome_of_shards (write_of cut) cut.ending) (same_outcome (job_of program slots s) job.twice 0 (shards_in s.shard cut.records))
      ∙ sym (on_shards cut)

module _ {F : Type 0} (the_files : files.Ghosts F) (old new : F) (program : Marked) (s : RunSettings) (slots : List Slot)
    (begun : statics program s.budget ≡ Done slots) where
  -- the program was run over the input, or that couldn't be read
  pub input_run : (answer : Result (List ℕ) Failure) (job : Job) → IsJobOf program slots s job → GivesFile the_files job s old new answer
      → AnswersOn the_files s.frame (outcome_of_program program s) s.input old new answer
  input_run answer job is gives = record {
    input = gives.input;
    cut = gives.tables.cut;
    is_cut = gives.tables.is_cut;
    holds = gives.holds;
    decides = subst (λ o. Decides answer o (Rose (the_files.faults old) (the_files.faults new))) (of_job program s slots begun job is gives.tables.cut)
        gives.tables.decides;
    opened = subst (λ n. OpensFiles the_files old new (s.input ∷ []) n (status_of_answer answer)) (one_left program s slots begun gives.tables.cut)
        gives.opened;
  }

-- the outcome of running the text that spells a program is the program's
pub program_answers : {F : Type 0} (the_files : files.Ghosts F) (types : List TypeShape) (s : RunSettings) (text : List ℕ) (old new : F) (ss : Stms)
    (p : Marked)
    (answer : Result (List ℕ) Failure) → IsShort text → HasStatements text ss → savable types s.save s.ignore_undefs ss ≡ Ok p
    → AnswersOn the_files s.frame (outcome_of_program p s) s.input old new answer → AnswersText the_files types s text old new answer
program_answers the_files types s text old new ss p answer short has is a = record {
  reading = spells ss;
  read = (short, has);
  answers =
      let same = ap (outcome_of_checked_run s a.cut) (sym is) in
      record {
        input = a.input;
        cut = a.cut;
        is_cut = a.is_cut;
        holds = a.holds;
        decides = subst (λ o. Decides answer o (Rose (the_files.faults old) (the_files.faults new))) same a.decides;
        opened = subst (λ (o : Answer). OpensFiles the_files old new (s.input ∷ []) (o.opens - 1) (status_of_answer answer)) same a.opened;
      };
}

module _ {F : Type 0} (the_files : files.Ghosts F) (types : List TypeShape) (s : RunSettings) (text : List ℕ) (old : F) where
  no_memory : AnswersText the_files types s text old old (Err failure.NoMemory)
  no_memory = let r = every_text_is_read text in record {
    reading = r.reading;
    read = r.read;
    answers = no_code the_files s.frame s.input old _;
  }

  -- the text is refused, and no file is opened
  pub text_refused : (f : Failure) → IsFailureOf text f → AnswersText the_files types s text old old (Err f)
  text_refused (failure.Refused r) read = record {
    reading = refused r;
    read = read;
    answers = answers_unopened the_files s.frame s.input old _ (failure.Refused r) (λ e. cc) (λ cut read memory. refl) (λ cut. says refl);
  }
  text_refused failure.NoMemory h = no_memory
  text_refused _ h = absurd h

  -- the text's statements are refused
  pub statements_refused : (ss : Stms) (f : Failure) → IsShort text → HasStatements text ss → IsFailureOn (savable types s.save s.ignore_undefs ss) f
      → AnswersText the_files types s text old old (Err f)
  statements_refused ss (failure.Refused r) short has h = record {
    reading = spells ss;
    read = (short, has);
    answers = answers_unopened the_files s.frame s.input old _ (failure.Refused r) (λ e. cc)
        (λ cut read memory. ap (λ (o : Answer). o.opens) (ap (outcome_of_checked_run s cut) h)) (λ cut. says (ap (outcome_of_checked_run s cut) h));
  }
  statements_refused ss failure.NoMemory short has h = no_memory
  statements_refused ss _ short has h = absurd h

module _ (types : List TypeShape) (text : List ℕ) where
  check_no_memory : AnswersCheck types text (Err failure.NoMemory)
  check_no_memory = let r = every_text_is_read text in record { reading = r.reading; read = r.read; decides = tt }

  -- the text can't be read
  pub check_unread : (f : Failure) → IsFailureOf text f → AnswersCheck types text (Err f)
  check_unread (failure.Refused r) read = record { reading = refused r; read = read; decides = says refl }
  check_unread failure.NoMemory h = check_no_memory
  check_unread _ h = absurd h

  -- the text's statements are refused
  pub check_fails : (ss : Stms) (f : Failure) → IsShort text → HasStatements text ss → IsFailureOn (checked types ss) f → AnswersCheck types text (Err f)
  check_fails ss (failure.Refused r) short has h = record { reading = spells ss; read = (short, has); decides = says (ap outcome_of_checked h) }
  check_fails ss failure.NoMemory short has h = check_no_memory
  check_fails ss _ short has h = absurd h

  -- nothing is refused
  pub check_passes : (ss : Stms) (program : Core) (output : List ℕ) → IsShort text → HasStatements text ss → checked types ss ≡ Ok program → [] ≡ output
      → AnswersCheck types text (Ok output)
  check_passes ss program output short has h none =
      record { reading = spells ss; read = (short, has); decides = says (ap outcome_of_checked h ∙ ap success none) }
