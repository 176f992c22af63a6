-- What a job answers after the rounds of its journal, and what it leaves of the journal.
use Rattle.std.proofs.Common.{◌≡◌, ◌≢◌, ℕ, zero, suc, ◌+◌, ◌-◌, ◌*◌, ◌<◌, ◌≤◌, Bool, true, false, List, [], ◌∷◌, ◌++◌, length, take, Option, Some, None}
use Rattle.std.proofs.Common.{refl, sym, ap, ◌∙◌, subst, arith, inl, ltb-true, ltb-false, append-nil}
use Rattle.std.specs.Prelude.{IfSome, unwrap_or, replicate, nat_lt, Result, Ok, Err, if◌then◌else◌}
use Rattle.std.proofs.lemmas.List.{length-replicate}
use Rattle.std.proofs.lemmas.List.Sorted.{IsPermutation-refl}
use Rattle.std.specs.List.Sorted.{IsPermutation}
use Rattle.sz_types.specs.Tables.{Declaration}
use Rattle.sz_tabs.specs.Data.{EmitDatum}
use Rattle.sz_io.specs.Rose.{Rose}
use Rattle.sz_io.specs.Opened.{names_after}
use Rattle.sz_io.specs.declared.files.Files as files
use Rattle.sz_io.specs.declared.error.OutsideError.{OutsideError}
use Rattle.sz_io.specs.declared.error.OutsideError.TheVariants as outside
use Rattle.sz_world_rules.specs.World.{Fault}
use Rattle.sz_mean.specs.Marked.{all_tables}
use Rattle.sz_print.specs.Tables.{lists_text, tables_text}
use Rattle.sz_save_format.specs.Saved.{SavedState, CanBeSaved}
use Rattle.sz_save.specs.Saving.{state_of_emits}
use Rattle.sz_merge.specs.JoiningLaws.{given}
use Rattle.sz_merge.specs.Runs.{Run, HasTextOfOne}
use Rattle.sz_machine.specs.Ends.{seen_fault}
use Rattle.sz_records.specs.declared.ending.Ending.{Ending}
use Rattle.sz_records.specs.declared.ending.Ending.TheVariants.{Whole, Damaged, Limit}
use Rattle.sz_attempt.specs.declared.job.Job.{Job}
use Rattle.sz_workers.specs.Outcomes.{ShardsEnd, emitted, faulted, lost, outcome_of}
use Rattle.sz_stream.specs.declared.stop.Stop.TheVariants as stops
use Rattle.sz_words.specs.declared.settings.RunSettings.{RunSettings}
use Rattle.sz_journal.specs.declared.job.JobBytes.{JobBytes}
use Rattle.sz_journal.specs.declared.round.RoundEntry.{RoundEntry}
use Rattle.sz_journal.specs.Rounds.{last_progress}
use Rattle.sz_disk.specs.Entries.{end_of}
use Rattle.sz_journal.specs.Journals.{Spelled, entries_of}
use Rattle.sz_journal.specs.declared.tail.Tail.{Tail}
use Rattle.sz_journal.specs.Journal.{rounds_of, IsOf}
use Rattle.sz_journal.specs.Journal as journals
use Rattle.sz_resume.specs.declared.halt.Halt.{Halt}
use Rattle.sz_resume.specs.declared.halt.Halt.TheVariants as halts
use Rattle.sz_resume.specs.Standing.{IsFound}
use Rattle.sz_resume.specs.Runs.{EndsJob, RunsSource, TellsShort}
use Rattle.szl.specs.declared.status.Status.TheVariants as status
use Rattle.szl.specs.declared.failure.Failure.{Failure}
use Rattle.szl.specs.declared.failure.Failure.TheVariants as failure
use Rattle.szl.specs.Answers.{Answer, success}
use Rattle.szl.specs.Opening.{Decides, status_of_answer}
use Rattle.szl.specs.Outcome.{outcome_of_ending, outcome_of_shards}
use Rattle.szl.specs.Promise.{OpensFiles}
use Rattle.szl.specs.ProgramRuns.{failure_of_opening}
use Rattle.szl.specs.Records.{Cut, IsCutInto}
use Rattle.szl.specs.Shards.{shards_in, shard_sizes}
use Rattle.szl.specs.Resuming.{last_gate, damaged_after, unless_journal, source_of}
use Rattle.szl.specs.JournalRuns.{failure_of_halt, as_memory, AnswersJob, IsAfterRounds, but_one}
use Rattle.szl.proofs.AnswerLemmas.{cut_of, fault_is_numbered, no_usage}
use Rattle.szl.proofs.OpeningLemmas.{holds_or}
use Rattle.szl.proofs.OpenedLemmas.{opened_one, opened_or_none}
use Rattle.szl.proofs.ShardLemmas.{sizes_are_shards}

-- ---- the text of what is held

-- what is saved of emits has their text
pub saved_text : HasTextOfOne → (all : SavedState) → CanBeSaved all → (decls : List Declaration) (bound : ℕ) (emits : List EmitDatum)
    → all ≡ state_of_emits bound decls emits → lists_text all.decls all.tables ≡ tables_text decls emits
saved_text law all can decls bound emits is =
    let run : Run = record { bound = bound; emits = emits } in
    let none : bound + 0 ≡ bound = omega arith in
    law decls (run ∷ []) run (given all) (record {
      given = ap (λ s. s ∷ []) is;
      is = can;
      all = record { bound = none; emits = subst (IsPermutation (emits ++ [])) (append-nil emits) (IsPermutation-refl (emits ++ [])) };
    })

-- ---- outcomes for which two files are opened

-- what is written of an end of shards, if anything is
pub shown_of : (List EmitDatum → List ℕ) → ShardsEnd → List ℕ
shown_of write (emitted emits passed) = write emits
shown_of write (faulted number fault) = []
shown_of write (lost shard) = []

-- an outcome of shards opens two files, as its faults are in records
pub opens_both : (write : List EmitDatum → List ℕ) (ending : Ending) (end : ShardsEnd) → ((k : ℕ) (f : Fault) → end ≡ faulted k f → 1 ≤ k)
    → outcome_of_shards write ending end ≡ record (outcome_of_shards (λ emits. shown_of write end) ending end) { opens = 2 }
unfolding shown_of
opens_both write Whole (emitted emits passed) numbered = refl
opens_both write (Damaged byte) (emitted emits passed) numbered = refl
opens_both write (Limit byte) (emitted emits passed) numbered = refl
opens_both write ending (faulted zero fault) numbered = let le = numbered 0 fault refl in absurd (omega (arith, le))
opens_both write ending (faulted (suc number) fault) numbered = refl
opens_both write ending (lost shard) numbered = refl

-- an outcome that opens two files and is no bad command line
pub record OpensBoth (a : Answer) : Type 0 where
  pub two : a.opens ≡ 2
  pub other : a.status ≢ status.Usage

pub both_if : (b : Bool) (gate : ℕ) (rest : Answer) → OpensBoth rest → OpensBoth (if b then damaged_after gate 2 else rest)
both_if true gate rest both = record { two = refl; other = λ e. cc }
both_if false gate rest both = both

pub both_after : (write : List EmitDatum → List ℕ) (ending : Ending) (end : ShardsEnd)
    → OpensBoth (record (outcome_of_shards write ending end) { opens = 2 })
both_after write ending end = record { two = refl; other = no_usage write ending end }

-- ---- the input's length

pub short_or : (told : Option (List ℕ)) (bytes : ℕ) → 0 < bytes → IfSome told (λ input. length input < bytes) → length (unwrap_or told []) < bytes
short_or None bytes some short = some
short_or (Some input) bytes some short = short

pub long_or : (told : Option (List ℕ)) (bytes : ℕ) → IfSome told (λ input. bytes ≤ length input) → bytes ≤ length (unwrap_or told (replicate bytes 0))
long_or None bytes long = omega (arith, length-replicate {A = ℕ} bytes 0)
long_or (Some input) bytes long = long

pub is_short : (size bytes : ℕ) → size < bytes → nat_lt size bytes ≡ true
is_short size bytes less = by (nat_lt size bytes) refl
  where
    by : (b : Bool) → nat_lt size bytes ≡ b → b ≡ true
    by true e = refl
    by false e = let le = ltb-false size bytes e in absurd (omega (arith, le, less))

pub not_short : (size bytes : ℕ) → bytes ≤ size → nat_lt size bytes ≡ false
not_short size bytes long = by (nat_lt size bytes) refl
  where
    by : (b : Bool) → nat_lt size bytes ≡ b → b ≡ false
    by true e = let less = ltb-true size bytes e in absurd (omega (arith, less, long))
    by false e = refl

-- rounds that ended somewhere are some rounds and a last one
pub record HasLast (rounds : List RoundEntry) : Type 0 where
  pub before : List RoundEntry
  pub round : RoundEntry
  pub is : rounds ≡ before ++ round ∷ []
  pub front : take (length rounds - 1) rounds ≡ before

has_last : (rounds : List RoundEntry) → 0 < (last_progress rounds).bytes → HasLast rounds
has_last [] some = absurd (omega (arith, some))
has_last (round ∷ []) some = record { before = []; round = round; is = refl; front = refl }
has_last (first ∷ round ∷ rounds) some =
    let more = has_last (round ∷ rounds) some in
    let count : length (first ∷ round ∷ rounds) - 1 ≡ suc (length (round ∷ rounds) - 1) = omega arith in
    record {
      before = first ∷ more.before;
      round = more.round;
      is = ap (λ rs. first ∷ rs) more.is;
      front = ap (λ n. take n (first ∷ round ∷ rounds)) count ∙ ap (λ rs. first ∷ rs) more.front;
    }

-- the last gate of a journal of a job, by its rounds
pub gate_of : (name : JobBytes) (journal : Tail) → IsOf name journal → 0 < (last_progress (rounds_of journal)).bytes
    → journals.last_gate journal ≡ last_gate name (rounds_of journal)
gate_of name journal is some =
    let l = has_last (rounds_of journal) some in
    is.last l.before l.round l.is ∙ ap (λ rs. end_of (entries_of name rs)) (sym l.front)

under_some : (told : Option (List ℕ)) (P Q : List ℕ → Type 0) → ((input : List ℕ) → P input → Q input) → IfSome told P → IfSome told Q
under_some None P Q f p = tt
under_some (Some input) P Q f p = f input p

-- ---- the answer

module _ {F : Type 0} (the_files : files.Ghosts F) (s : RunSettings) (job : Job) (name : JobBytes) (rounds : List RoundEntry) (old new : F)
    (journal : Option (List ℕ)) where
  abbrev told : Option (List ℕ)
  told = the_files.held old s.input

  abbrev rose : Type 0
  rose = Rose (the_files.faults old) (the_files.faults new)

  abbrev Answered : Result (List ℕ) Failure → Type 0
  Answered answer = AnswersJob the_files (λ status. IsAfterRounds s job name rounds told journal) (s.input ∷ []) but_one old new answer

  abbrev Opened : Result (List ℕ) Failure → Type 0
  Opened answer = OpensFiles the_files old new (s.input ∷ []) 1 (status_of_answer (as_memory answer))

  -- the outcome of the run, over records that are cut so
  abbrev run_end : Cut → ShardsEnd
  run_end cut = outcome_of job (shards_in s.shard cut.records)

  abbrev run_rest : Cut → Answer
  run_rest cut = outcome_of_shards (tables_text (all_tables job.compiled)) cut.ending (run_end cut)

  run_numbered : (cut : Cut) (k : ℕ) (f : Fault) → run_end cut ≡ faulted k f → 1 ≤ k
  run_numbered cut k f e = fault_is_numbered job 0 0 1 cut.records (shard_sizes s.shard cut.records) (omega arith) k f e

  one_of : (outcome : Answer) → OpensBoth outcome → 1 ≡ but_one outcome.opens
  one_of outcome both = let two = both.two in omega (arith, two)

  -- an answer that says nothing of the outcome
  free : (answer : Result (List ℕ) Failure) → ((outcome : Answer) → outcome.status ≢ status.Usage → Decides (as_memory answer) outcome rose)
      → Opened answer → Answered answer
  free answer decides opened =
      let input = unwrap_or told [] in
      let c = cut_of s.frame input in
      let rest = run_rest c.cut in
      let is = opens_both (tables_text (all_tables job.compiled)) c.cut.ending (run_end c.cut) (run_numbered c.cut) in
      let outcome = unless_journal name (Spelled rounds) (length input) rest in
      let both = both_if (nat_lt (length input) (last_progress rounds).bytes) (last_gate name rounds) rest
      (subst OpensBoth (sym is) (both_after _ c.cut.ending (run_end c.cut))) in
      record {
        outcome = outcome;
        of = record {
          input = input;
          cut = c.cut;
          is_cut = c.is_cut;
          of_input = holds_or told [];
          rest = rest;
          end = run_end c.cut;
          ending = c.cut.ending;
          output = shown_of (tables_text (all_tables job.compiled)) (run_end c.cut);
          is = is;
          of_run = λ bytes held t j found. refl;
          outcome_is = refl;
        };
        decides = decides outcome both.other;
        opened = subst (λ n. OpensFiles the_files old new (s.input ∷ []) n (status_of_answer (as_memory answer))) (one_of outcome both) opened;
      }

  pub no_memory : Opened (Err failure.NoMemory) → Answered (Err failure.NoMemory)
  no_memory opened = free (Err failure.NoMemory) (λ outcome other. tt) opened

  disk_fails : Opened (Err failure.DiskFailed) → Answered (Err failure.DiskFailed)
  disk_fails opened = free (Err failure.DiskFailed) (λ outcome other. tt) opened

  read_fails : rose → Opened (Err failure.ReadFailed) → Answered (Err failure.ReadFailed)
  read_fails is opened = free (Err failure.ReadFailed) (λ outcome other. (is, other)) opened

  -- the file couldn't be opened
  pub unopened : (e : OutsideError) → (e ≡ outside.Failed → rose)
      → the_files.names new ≡ names_after (the_files.names old) s.input (Err e) → Answered (Err (failure_of_opening e))
  unopened outside.Failed failed names =
      read_fails (failed refl)
      (opened_one the_files old new s.input [] 1 status.ReadFailed (omega arith) names (λ read memory. refl) (λ read memory. absurd (read refl)))
  unopened outside.NoMemory failed names = no_memory (opened_or_none the_files old new s.input [] 1 (omega arith) (inl names))

  -- the input is too short for the rounds
  too_short : (gate : ℕ) → gate ≡ last_gate name rounds → 0 < (last_progress rounds).bytes
      → IfSome told (λ input. length input < (last_progress rounds).bytes) → Opened (Err (failure.JournalDamaged gate))
      → Answered (Err (failure.JournalDamaged gate))
  too_short gate is_gate some short opened =
      let input = unwrap_or told [] in
      let c = cut_of s.frame input in
      let rest = run_rest c.cut in
      let less = is_short (length input) (last_progress rounds).bytes (short_or told (last_progress rounds).bytes some short) in
      let is = ap (λ b. if b then damaged_after (last_gate name rounds) 2 else rest) less ∙ ap (λ g. damaged_after g 2) (sym is_gate) in
      record {
        outcome = damaged_after gate 2;
        of = record {
          input = input;
          cut = c.cut;
          is_cut = c.is_cut;
          of_input = holds_or told [];
          rest = rest;
          end = run_end c.cut;
          ending = c.cut.ending;
          output = shown_of (tables_text (all_tables job.compiled)) (run_end c.cut);
          is = opens_both (tables_text (all_tables job.compiled)) c.cut.ending (run_end c.cut) (run_numbered c.cut);
          of_run = λ bytes held t j found. refl;
          outcome_is = sym is;
        };
        decides = refl;
        opened = opened;
      }

  -- an answer is that of the run, if the journal is one that the job may find: it is so of each cut of an input that is told
  abbrev IsOfRun : (List EmitDatum → List ℕ) → Ending → ShardsEnd → Type 0
  IsOfRun write ending end =
      (cut : Cut) (bytes held : List ℕ) → told ≡ Some bytes → journal ≡ Some held → IsFound name job (source_of s bytes) held rounds
      → IsCutInto s.frame bytes cut → record (outcome_of_shards write ending end) { opens = 2 } ≡ run_rest cut

  -- the input is as long as the rounds want it, and the rest decides
  decided : (answer : Result (List ℕ) Failure) (output : List ℕ) (ending : Ending) (end : ShardsEnd)
      → IfSome told (λ input. (last_progress rounds).bytes ≤ length input) → IsOfRun (λ emits. output) ending end
      → Decides (as_memory answer) (record (outcome_of_shards (λ emits. output) ending end) { opens = 2 }) rose → Opened answer → Answered answer
  decided answer output ending end long of_run decides opened =
      let input = unwrap_or told (replicate (last_progress rounds).bytes 0) in
      let c = cut_of s.frame input in
      let rest : Answer = record (outcome_of_shards (λ emits. output) ending end) { opens = 2 } in
      let more = not_short (length input) (last_progress rounds).bytes (long_or told (last_progress rounds).bytes long) in
      record {
        outcome = rest;
        of = record {
          input = input;
          cut = c.cut;
          is_cut = c.is_cut;
          of_input = holds_or told (replicate (last_progress rounds).bytes 0);
          rest = rest;
          end = end;
          ending = ending;
          output = output;
          is = refl;
          of_run = λ bytes held t j found.
              of_run c.cut bytes held t j found (subst (λ (i : List ℕ). IsCutInto s.frame i c.cut) (ap (λ o. unwrap_or o (replicate (last_progress rounds).bytes 0)) t) c.is_cut);
          outcome_is = sym (ap (λ b. if b then damaged_after (last_gate name rounds) 2 else rest) more);
        };
        decides = decides;
        opened = opened;
      }

  module _ (low : 1 ≤ s.shard) (j : Tail) (rounds_are : rounds_of j ≡ rounds) where
    -- the shards of an input that is told
    ends_of : (r : Result SavedState Halt) (bytes : List ℕ) (cut : Cut) → RunsSource job j (source_of s bytes) r → IsCutInto s.frame bytes cut
        → EndsJob job j (length bytes) (length cut.records) cut.ending (run_end cut) r
    ends_of r bytes cut runs is = runs cut.records cut.ending (shard_sizes s.shard cut.records) is (sizes_are_shards s.shard cut.records low)

    abbrev Runs : Result SavedState Halt → Type 0
    Runs r = (bytes held : List ℕ) → told ≡ Some bytes → journal ≡ Some held → IsFound name job (source_of s bytes) held rounds
        → RunsSource job j (source_of s bytes) r

    -- there are no tables
    pub halted : (halt : Halt) → Runs (Err halt) → IfSome told (λ input. TellsShort j input (Err halt))
        → ((gate : ℕ) → halt ≡ halts.Short gate → (gate ≡ last_gate name rounds) × (0 < (last_progress rounds).bytes))
        → (halt ≡ halts.Stopped stops.ReadFailed → rose) → Opened (Err (failure_of_halt halt)) → Answered (Err (failure_of_halt halt))
    halted halts.DiskFailed runs short at failed opened = disk_fails opened
    halted (halts.Short gate) runs short at failed opened =
        too_short gate (at gate refl).0 (at gate refl).1
        (under_some told (λ input. TellsShort j input (Err (halts.Short gate))) (λ input. length input < (last_progress rounds).bytes)
        (λ input t. subst (λ rs. length input < (last_progress rs).bytes) rounds_are t.1) short)
        opened
    halted (halts.Stopped stops.NoMemory) runs short at failed opened = no_memory opened
    halted (halts.Stopped stops.ReadFailed) runs short at failed opened = read_fails (failed refl) opened
    halted (halts.Stopped (stops.Fault number fault)) runs short at failed opened =
        decided (Err (failure.Faulted number fault)) [] Whole (faulted number (seen_fault fault)) (long short)
        (λ cut bytes held t q found is.
        let e = ends_of (Err (halts.Stopped (stops.Fault number fault))) bytes cut (runs bytes held t q found) is in
        let numbered : 1 ≤ number = run_numbered cut number (seen_fault fault) e in
        sym (opens_both (λ emits. []) Whole (faulted number (seen_fault fault)) (λ k f same. let k_is : k ≡ number = cc in omega (arith, k_is, numbered)))
        ∙ ap (outcome_of_shards (tables_text (all_tables job.compiled)) cut.ending) (sym e))
        refl opened
      where
        long : IfSome told (λ input. TellsShort j input (Err (halts.Stopped (stops.Fault number fault)))) → IfSome told (λ input. (last_progress rounds).bytes ≤ length input)
        long t = under_some told _ (λ input. (last_progress rounds).bytes ≤ length input)
            (λ input le. subst (λ rs. (last_progress rs).bytes ≤ length input) rounds_are le) t
    halted (halts.Stopped (stops.Lost shard)) runs short at failed opened =
        decided (Err (failure.Lost shard)) [] Whole (lost shard)
        (under_some told (λ input. TellsShort j input (Err (halts.Stopped (stops.Lost shard)))) (λ input. (last_progress rounds).bytes ≤ length input)
        (λ input le. subst (λ rs. (last_progress rs).bytes ≤ length input) rounds_are le) short)
        (λ cut bytes held t q found is.
        ap (outcome_of_shards (tables_text (all_tables job.compiled)) cut.ending)
        (sym (ends_of (Err (halts.Stopped (stops.Lost shard))) bytes cut (runs bytes held t q found) is)))
        refl opened
    halted (halts.Stopped (stops.Damaged byte)) runs short at failed opened =
        decided (Err (failure.Damaged byte)) [] (Damaged byte) (emitted [] 0)
        (under_some told (λ input. TellsShort j input (Err (halts.Stopped (stops.Damaged byte)))) (λ input. (last_progress rounds).bytes ≤ length input)
        (λ input le. subst (λ rs. (last_progress rs).bytes ≤ length input) rounds_are le) short)
        (λ cut bytes held t q found is.
        let e = ends_of (Err (halts.Stopped (stops.Damaged byte))) bytes cut (runs bytes held t q found) is in
        sym (ap (outcome_of_shards (tables_text (all_tables job.compiled)) cut.ending) e.1.2
        ∙ ap (λ g. outcome_of_ending g (tables_text (all_tables job.compiled) e.1.0)) e.0))
        refl opened
    halted (halts.Stopped (stops.Limit byte)) runs short at failed opened =
        decided (Err (failure.Limit byte)) [] (Limit byte) (emitted [] 0)
        (under_some told (λ input. TellsShort j input (Err (halts.Stopped (stops.Limit byte)))) (λ input. (last_progress rounds).bytes ≤ length input)
        (λ input le. subst (λ rs. (last_progress rs).bytes ≤ length input) rounds_are le) short)
        (λ cut bytes held t q found is.
        let e = ends_of (Err (halts.Stopped (stops.Limit byte))) bytes cut (runs bytes held t q found) is in
        sym (ap (outcome_of_shards (tables_text (all_tables job.compiled)) cut.ending) e.1.2
        ∙ ap (λ g. outcome_of_ending g (tables_text (all_tables job.compiled) e.1.0)) e.0))
        refl opened

    -- the text is that of the tables
    pub texts : (all : SavedState) (output : List ℕ) → Runs (Ok all) → IfSome told (λ input. TellsShort j input (Ok all))
        → ((bound : ℕ) (decls : List Declaration) (emits : List EmitDatum) → all ≡ state_of_emits bound decls emits → output ≡ tables_text decls emits)
        → Opened (Ok output) → Answered (Ok output)
    texts all output runs short text opened =
        decided (Ok output) output Whole (emitted [] 0)
        (under_some told (λ input. TellsShort j input (Ok all)) (λ input. (last_progress rounds).bytes ≤ length input)
        (λ input le. subst (λ rs. (last_progress rs).bytes ≤ length input) rounds_are le) short)
        (λ cut bytes held t q found is.
        let e = ends_of (Ok all) bytes cut (runs bytes held t q found) is in
        sym (ap (outcome_of_shards (tables_text (all_tables job.compiled)) cut.ending) e.3
        ∙ ap (λ g. outcome_of_ending g (tables_text (all_tables job.compiled) e.0)) e.2
        ∙ ap success (sym (text (length cut.records * job.budget) (all_tables job.compiled) e.0 e.4))))
        refl opened
