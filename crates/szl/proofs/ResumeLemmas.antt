-- The answer of a job that is resumed: from its program, its program's text, its program's file, and its file of types.
use Rattle.std.proofs.Common.{◌≡◌, ◌≢◌, ℕ, suc, ◌-◌, List, [], ◌∷◌, ◌++◌, length, take, Option, Some, None, IfSome}
use Rattle.std.proofs.Common.{refl, sym, ap, ◌∙◌, subst, arith}
use Rattle.std.specs.Prelude.{unwrap_or, option_to_list, nat_lt, Result, Ok, Err, if◌then◌else◌, Bool, true, false}
use Rattle.sz_io.specs.Rose.{Rose}
use Rattle.sz_io.specs.Opened.{KeepsFiles}
use Rattle.sz_io.specs.Calls.{NamesGain, OpensOne}
use Rattle.sz_io.proofs.ForCallers.{rose_later}
use Rattle.sz_io.specs.declared.files.Files as files
use Rattle.sz_disk.specs.Calls.{AreAmong}
use Rattle.sz_disk.specs.declared.disk.Disk as disks
use Rattle.sz_tree.specs.Statements.{Stms}
use Rattle.sz_mean.specs.Marked.{Marked}
use Rattle.sz_mean.specs.Programs.{statics}
use Rattle.sz_world_rules.specs.World.{Outcome, Done, Faulted}
use Rattle.sz_world_rules.specs.Slots.{Slot}
use Rattle.sz_protofile.specs.Types.{TypeShape}
use Rattle.sz_protofile_types.specs.Readings.{FileReading, bad_file, with_types}
use Rattle.sz_records.specs.declared.ending.Ending.{Ending}
use Rattle.sz_workers.specs.Outcomes.{ShardsEnd}
use Rattle.sz_words.specs.declared.settings.RunSettings.{RunSettings}
use Rattle.sz_journal.specs.declared.job.JobBytes.{JobBytes}
use Rattle.sz_journal.specs.Rounds.{last_progress}
use Rattle.sz_journal.specs.Journals.{Standing, Empty, OtherJob, DamagedAt, Spelled}
use Rattle.szl.specs.declared.status.Status.{Status}
use Rattle.szl.specs.declared.status.Status.TheVariants as status
use Rattle.szl.specs.declared.failure.Failure.{Failure}
use Rattle.szl.specs.declared.failure.Failure.TheVariants as failure
use Rattle.sz_refusals.specs.declared.refusal.Refusal.{Refusal}
use Rattle.szl.specs.Answers.{Answer}
use Rattle.szl.specs.Failing.{status_of}
use Rattle.sz_refusals.specs.Texts.{IsShort, HasStatements, most_program_bytes}
use Rattle.szl.specs.Judgement.{Reading, IsRead, refused, spells}
use Rattle.szl.specs.Judging.{IsFailureOf, IsFailureOn}
use Rattle.szl.specs.Opening.{Decides, ReadsText, ran_out, past_program, status_of_answer}
use Rattle.szl.specs.Outcome.{outcome_of_shards, outcome_refused}
use Rattle.szl.specs.Promise.{IfRead, OpensFiles}
use Rattle.szl.specs.ProtoFiles.{IsFileRead, IsOfFile, outcome_of_file, after_file}
use Rattle.szl.specs.ProtoReads.{ReadsTypes, GivesTypes}
use Rattle.szl.specs.Records.{Cut}
use Rattle.szl.specs.Savable.{savable}
use Rattle.szl.specs.Shards.{job_of}
use Rattle.szl.specs.Resuming.{kept_job, source_of, last_gate, damaged_after, unless_journal, outcome_after_statics, outcome_after_checked, outcome_after_read, outcome_of_resume}
use Rattle.szl.specs.ResumePromise.{IfSpelled, IfRun, IfKnown, IsRest, IsJobOutcome, IsToldFile, IsNameFor, KeepsDisk, KeepsEntries, KeepsJournal}
use Rattle.szl.specs.JournalRuns.{as_memory, AnswersJob, IsProgramOutcome, IsTextOutcome, IsFileOutcome, IfBegun, but_one}
use Rattle.szl.proofs.JudgementLemmas.{one_reading, every_text_is_read}
use Rattle.szl.proofs.AnswerLemmas.{cut_of, no_usage}
use Rattle.szl.proofs.OpeningLemmas.{holds_or}
use Rattle.szl.proofs.OpenedLemmas.{opened_none, opened_one, opened_or_none, opened_then}
use Rattle.szl.proofs.SaysLemmas.{says}
use Rattle.szl.proofs.SettingsLemmas.{IsAnswered, decides_since, long_failure}
use Rattle.szl.proofs.AfterLemmas.{decides_after}
use Rattle.szl.proofs.ProtoLemmas.{every_file_is_read, one_file_reading}
use Rattle.szl.proofs.JobLemmas.{HasRest, no_rest, some_rest}
use Rattle.szl.proofs.KeepLemmas.{keeps_none, entries_untouched}

-- ---- what is so of the program that is spelled

pub if_spelled : (s : RunSettings) (types : List TypeShape) (ss : Stms) (program : Marked) → savable types true s.ignore_undefs ss ≡ Ok program
    → (IsSo : Marked → List Slot → Type 0) → IfBegun s program IsSo → IfSpelled s types (spells ss) IsSo
if_spelled s types ss program h IsSo f = λ other slots is begun.
    let same : program ≡ other = same_program other (sym h ∙ is) in
    subst (λ p. IsSo p slots) same (f slots (subst (λ p. statics p s.budget ≡ Done slots) (sym same) begun))
  where
    same_program : (other : Marked) → ◌≡◌ {A = Result Marked Refusal} (Ok program) (Ok other) → program ≡ other
    same_program other e = cc

pub rest_of_text : (s : RunSettings) (types : List TypeShape) (name : JobBytes) (told journal : Option (List ℕ)) (cut : Cut) (reading : Reading)
    → HasRest s (IfSpelled s types reading) name told journal cut
rest_of_text s types name told journal cut (refused r) = no_rest s (IfSpelled s types (refused r)) name told journal cut (λ IsSo. tt)
rest_of_text s types name told journal cut (spells ss) = by (savable types true s.ignore_undefs ss) refl
  where
    by : (found : Result Marked Refusal) → savable types true s.ignore_undefs ss ≡ found → HasRest s (IfSpelled s types (spells ss)) name told journal cut
    by (Err r) e =
        no_rest s (IfSpelled s types (spells ss)) name told journal cut (λ IsSo program slots is begun. let no = sym e ∙ is in absurd (cc))
    by (Ok program) e =
        let r = some_rest s program name told journal cut in
        record {
          rest = r.rest;
          behind = record {
            end = r.behind.end;
            ending = r.behind.ending;
            output = r.behind.output;
            is = r.behind.is;
            of_run = if_spelled s types ss program e _ r.behind.of_run;
          };
        }

pub rest_of_file : (s : RunSettings) (name : JobBytes) (told journal : Option (List ℕ)) (cut : Cut) (file : FileReading) (reading : Reading)
    → HasRest s (IfRun s file reading) name told journal cut
rest_of_file s name told journal cut (bad_file f) reading = no_rest s (IfRun s (bad_file f) reading) name told journal cut (λ IsSo. tt)
rest_of_file s name told journal cut (with_types types) reading =
    let r = rest_of_text s types name told journal cut reading in
    record {
      rest = r.rest;
      behind = record {
        end = r.behind.end;
        ending = r.behind.ending;
        output = r.behind.output;
        is = r.behind.is;
        of_run = r.behind.of_run;
      };
    }

-- ---- an outcome opens a file, and is no bad command line

answered_after : (end : ShardsEnd) (ending : Ending) (output : List ℕ) (rest : Answer)
    → rest ≡ record (outcome_of_shards (λ emits. output) ending end) { opens = 2 } → IsAnswered rest
answered_after end ending output rest is =
    subst IsAnswered (sym is) (record { opens = omega arith; other = no_usage (λ emits. output) ending end })

answered_journal : (name : JobBytes) (standing : Standing) (size : ℕ) (rest : Answer) → IsAnswered rest → IsAnswered (unless_journal name standing size rest)
answered_journal name Empty size rest a = a
answered_journal name OtherJob size rest a = record { opens = omega arith; other = λ e. cc }
answered_journal name (DamagedAt gate) size rest a = record { opens = omega arith; other = λ e. cc }
answered_journal name (Spelled rounds) size rest a = by (nat_lt size (last_progress rounds).bytes)
  where
    by : (b : Bool) → IsAnswered (if b then damaged_after (last_gate name rounds) 2 else rest)
    by true = record { opens = omega arith; other = λ e. cc }
    by false = a

answered_statics : (by : Answer → Answer) (rest : Answer) → IsAnswered (by rest) → (o : Outcome (List Slot))
    → IsAnswered (outcome_after_statics by rest o)
answered_statics by rest a (Done slots) = a
answered_statics by rest a (Faulted f) = record { opens = omega arith; other = λ e. cc }

answered_checked : (budget : ℕ) (by : Answer → Answer) (rest : Answer) → IsAnswered (by rest) → (found : Result Marked Refusal)
    → IsAnswered (outcome_after_checked budget by rest found)
answered_checked budget by rest a (Ok program) = answered_statics by rest a (statics program budget)
answered_checked budget by rest a (Err r) = record { opens = omega arith; other = λ e. cc }

answered_read : (s : RunSettings) (by : Answer → Answer) (rest : Answer) → IsAnswered (by rest) → (types : List TypeShape) (reading : Reading)
    → IsAnswered (outcome_after_read s by rest reading types)
answered_read s by rest a types (refused r) = record { opens = omega arith; other = λ e. cc }
answered_read s by rest a types (spells ss) = answered_checked s.budget by rest a (savable types true s.ignore_undefs ss)

answered_text : (s : RunSettings) (types : List TypeShape) (text : List ℕ) (name : JobBytes) (told journal : Option (List ℕ)) (st : Status)
    (outcome : Answer) → IsTextOutcome s types text name told journal st outcome → IsAnswered outcome
answered_text s types text name told journal st outcome t =
    let b = t.by_journal in
    let rest = answered_after b.behind.end b.behind.ending b.behind.output b.rest b.behind.is in
    subst IsAnswered (sym b.is)
    (answered_read s (unless_journal name b.standing (length b.input)) b.rest (answered_journal name b.standing (length b.input) b.rest rest) types t.reading)

-- ---- the program's text

module _ {F : Type 0} (the_files : files.Ghosts F) (s : RunSettings) (types : List TypeShape) (text : List ℕ) (name : JobBytes) (old : F)
    (journal : Option (List ℕ)) where
  abbrev told_of : Option (List ℕ)
  told_of = the_files.held old s.input

  abbrev OfText : F → Result (List ℕ) Failure → Type 0
  OfText new answer = AnswersJob the_files (IsTextOutcome s types text name told_of journal) (s.input ∷ []) but_one old new answer

  -- the text or its program is refused
  refused_so : (r : Refusal) (reading : Reading) → IsRead text reading → ((IsSo : Marked → List Slot → Type 0) → IfSpelled s types reading IsSo)
      → ((by : Answer → Answer) (rest : Answer) → outcome_after_read s by rest reading types ≡ outcome_refused r) → OfText old (Err (failure.Refused r))
  refused_so r reading read none is =
      let input = unwrap_or told_of [] in
      let c = cut_of s.frame input in
      let rest = no_rest s (IfSpelled s types reading) name told_of journal c.cut none in
      let outcome = outcome_after_read s (unless_journal name Empty (length input)) rest.rest reading types in
      let same = is (unless_journal name Empty (length input)) rest.rest in
      record {
        outcome = outcome;
        of = record {
          reading = reading;
          read = read;
          by_journal = record {
            input = input;
            cut = c.cut;
            is_cut = c.is_cut;
            of_input = holds_or told_of [];
            standing = Empty;
            stands = λ known memory. none _;
            rest = rest.rest;
            behind = rest.behind;
            is = refl;
          };
        };
        decides = says same;
        opened = opened_none the_files old (s.input ∷ []) _ status.Program (λ e. cc)
            (λ known memory. ap (λ n. take (n - 1) (s.input ∷ [])) (sym (ap (λ (o : Answer). o.opens) same)));
      }

  -- memory ran out
  pub no_memory_for : (reading : Reading) → IsRead text reading → OfText old (Err failure.NoMemory)
  no_memory_for reading read =
      let input = unwrap_or told_of [] in
      let c = cut_of s.frame input in
      let rest = rest_of_text s types name told_of journal c.cut reading in
      record {
        outcome = outcome_after_read s (unless_journal name Empty (length input)) rest.rest reading types;
        of = record {
          reading = reading;
          read = read;
          by_journal = record {
            input = input;
            cut = c.cut;
            is_cut = c.is_cut;
            of_input = holds_or told_of [];
            standing = Empty;
            stands = λ known memory. absurd (memory refl);
            rest = rest.rest;
            behind = rest.behind;
            is = refl;
          };
        };
        decides = tt;
        opened = opened_none the_files old (s.input ∷ []) _ status.NoMemory (λ e. cc) (λ known memory. absurd (memory refl));
      }

  pub text_unread : (f : Failure) → IsFailureOf text f → OfText old (Err f)
  text_unread (failure.Refused r) h = refused_so r (refused r) h (λ IsSo. tt) (λ by rest. refl)
  text_unread failure.NoMemory h = let r = every_text_is_read text in no_memory_for r.reading r.read
  text_unread _ h = absurd h

  module _ (ss : Stms) (short : IsShort text) (has : HasStatements text ss) where
    pub program_refused : (f : Failure) → IsFailureOn (savable types true s.ignore_undefs ss) f → OfText old (Err f)
    program_refused (failure.Refused r) h =
        refused_so r (spells ss) (short, has) (λ IsSo program slots is begun. let no = sym h ∙ is in absurd (cc))
        (λ by rest. ap (outcome_after_checked s.budget by rest) h)
    program_refused failure.NoMemory h = no_memory_for (spells ss) (short, has)
    program_refused _ h = absurd h

    -- the program is answered
    pub program_resumed : (new : F) (program : Marked) (answer : Result (List ℕ) Failure) → savable types true s.ignore_undefs ss ≡ Ok program
        → AnswersJob the_files (IsProgramOutcome s program name told_of journal) (s.input ∷ []) but_one old new answer → OfText new answer
    program_resumed new program answer h a =
        let b = a.of in
        record {
          outcome = a.outcome;
          of = record {
            reading = spells ss;
            read = (short, has);
            by_journal = record {
              input = b.input;
              cut = b.cut;
              is_cut = b.is_cut;
              of_input = b.of_input;
              standing = b.standing;
              stands = λ known memory. if_spelled s types ss program h _ (b.stands known memory);
              rest = b.rest;
              behind = record {
                end = b.behind.end;
                ending = b.behind.ending;
                output = b.behind.output;
                is = b.behind.is;
                of_run = if_spelled s types ss program h _ b.behind.of_run;
              };
              is = b.is ∙ sym (ap (outcome_after_checked s.budget (unless_journal name b.standing (length b.input)) b.rest) h);
            };
          };
          decides = a.decides;
          opened = a.opened;
        }

module _ {K : Type 0} (the_disk : disks.Ghosts K) (s : RunSettings) (types : List TypeShape) (name : JobBytes) (told : Option (List ℕ)) (st : Status)
  where
    -- nothing was written
    pub nothing_kept : (reading : Reading) (disk : K) → st ≢ status.Done
        → AreAmong (the_disk.left_since disk (the_disk.time disk)) (the_disk.may_leave disk)
        → KeepsDisk the_disk s (IfSpelled s types reading) name told st disk disk
    nothing_kept (refused r) disk unfinished now = record {
      untouched = λ none. refl;
      entries = entries_untouched the_disk (λ other. other ≡ name) disk now;
      found = λ input held t rests. tt;
    }
    nothing_kept (spells ss) disk unfinished now = record {
      untouched = λ none. refl;
      entries = entries_untouched the_disk (λ other. other ≡ name) disk now;
      found = λ input held t rests program slots is begun before found.
          keeps_none name (job_of program slots s) (source_of s input) the_disk held before found st unfinished disk now;
    }

    -- what the program's job leaves is what the text's does
    pub text_keeps : (text : List ℕ) (ss : Stms) (program : Marked) (reading : Reading) (disk new : K) → IsShort text → HasStatements text ss
        → savable types true s.ignore_undefs ss ≡ Ok program → IsRead text reading
        → KeepsDisk the_disk s (IfBegun s program) name told st disk new → KeepsDisk the_disk s (IfSpelled s types reading) name told st disk new
    text_keeps text ss program reading disk new short has h read k =
        subst (λ r. KeepsDisk the_disk s (IfSpelled s types r) name told st disk new) (one_reading text (spells ss) reading (short, has) read) (record {
          untouched = λ none. k.untouched (λ slots begun. none program slots h begun);
          entries = k.entries;
          found = λ input held t rests. if_spelled s types ss program h _ (k.found input held t rests);
        })

-- ---- the program's file

module _ {F : Type 0} (the_files : files.Ghosts F) (s : RunSettings) (types : List TypeShape) (proto : List ℕ) (old : F) (journal : Option (List ℕ)) where
  abbrev OfProgramFile : F → Result (List ℕ) Failure → Type 0
  OfProgramFile new answer =
      AnswersJob the_files (IsFileOutcome the_files s types proto journal old) (s.program ∷ s.input ∷ []) (λ n. n) old new answer

  -- nothing is known of its program
  unread : (f : Failure) (text : List ℕ) (reading : Reading) (new : F) → IsRead text reading → IfSome (the_files.held old s.program) (λ bytes. bytes ≡ text)
      → ((X : Type 0) → IfKnown (status_of f) X)
      → ((outcome : Answer) → IsAnswered outcome → Decides (as_memory {T = List ℕ} (Err f)) outcome (Rose (the_files.faults old) (the_files.faults new))
      × OpensFiles the_files old new (s.program ∷ s.input ∷ []) outcome.opens (status_of_answer (as_memory {T = List ℕ} (Err f))))
      → OfProgramFile new (Err f)
  unread f text reading new read holds known ends =
      let told = the_files.held old s.input in
      let name = kept_job s text proto in
      let input = unwrap_or told [] in
      let c = cut_of s.frame input in
      let rest = rest_of_text s types name told journal c.cut reading in
      let outcome = outcome_after_read s (unless_journal name Empty (length input)) rest.rest reading types in
      let of : IsTextOutcome s types text name told journal (status_of f) outcome = record {
        reading = reading;
        read = read;
        by_journal = record {
          input = input;
          cut = c.cut;
          is_cut = c.is_cut;
          of_input = holds_or told [];
          standing = Empty;
          stands = known _;
          rest = rest.rest;
          behind = rest.behind;
          is = refl;
        };
      } in
      let end = ends outcome (answered_text s types text name told journal (status_of f) outcome of) in
      record {
        outcome = outcome;
        of = record { text = text; of_program = holds; of_text = of };
        decides = end.0;
        opened = end.1;
      }

  pub file_unread : (f : Failure) (new : F)
      → ReadsText (the_files.held old s.program) most_program_bytes past_program (Rose (the_files.faults old) (the_files.faults new)) (Err f)
      → NamesGain (ran_out {A = List ℕ} (Err f)) (the_files.names old) (the_files.names new) s.program
      → IfRead (status_of f) (OpensOne the_files old new) → OfProgramFile new (Err f)
  file_unread (failure.Refused r) new reads gains one =
      let told = the_files.held old s.input in
      let name = kept_job s reads.text proto in
      let input = unwrap_or told [] in
      let c = cut_of s.frame input in
      let rest = rest_of_text s types name told journal c.cut (refused r) in
      record {
        outcome = outcome_refused r;
        of = record {
          text = reads.text;
          of_program = reads.holds;
          of_text = record {
            reading = refused r;
            read = long_failure reads.text (failure.Refused r) reads.tells.0 reads.tells.1;
            by_journal = record {
              input = input;
              cut = c.cut;
              is_cut = c.is_cut;
              of_input = holds_or told [];
              standing = Empty;
              stands = λ known memory. tt;
              rest = rest.rest;
              behind = rest.behind;
              is = refl;
            };
          };
        };
        decides = refl;
        opened = opened_one the_files old new s.program (s.input ∷ []) 1 status.Program (omega arith) gains (λ known memory. refl) one;
      }
  file_unread failure.ReadFailed new reads gains one =
      let r = every_text_is_read reads.text in
      unread failure.ReadFailed reads.text r.reading new r.read reads.holds (λ X known memory. absurd (known refl))
      (λ outcome a. (
        (reads.tells, a.other),
        opened_one the_files old new s.program (s.input ∷ []) outcome.opens status.ReadFailed a.opens gains
            (λ known memory. absurd (known refl)) one,
      ))
  file_unread failure.NoMemory new reads gains one =
      let r = every_text_is_read reads.text in
      unread failure.NoMemory reads.text r.reading new r.read reads.holds (λ X known memory. absurd (memory refl))
      (λ outcome a. (tt, opened_or_none the_files old new s.program (s.input ∷ []) outcome.opens a.opens gains))
  file_unread _ new reads gains one = let e = reads.tells.0 in absurd (cc)

  -- its text is answered
  pub text_resumed : (mid new : F) (bytes : List ℕ) (answer : Result (List ℕ) Failure) (rose : Type 0)
      → ReadsText (the_files.held old s.program) most_program_bytes past_program rose (Ok bytes)
      → the_files.names mid ≡ the_files.names old ++ s.program ∷ [] → KeepsFiles the_files.held the_files.left the_files.given the_files.faults old mid
      → KeepsFiles the_files.held the_files.left the_files.given the_files.faults mid new → OpensOne the_files old mid
      → AnswersJob the_files (IsTextOutcome s types bytes (kept_job s bytes proto) (the_files.held mid s.input) journal) (s.input ∷ []) but_one mid new answer
      → OfProgramFile new answer
  text_resumed mid new bytes answer rose reads names keeps after one a =
      let of = subst (λ h. IsTextOutcome s types bytes (kept_job s bytes proto) h journal (status_of_answer answer) a.outcome) (keeps.held_same s.input) a.of in
      let some = (answered_text s types bytes (kept_job s bytes proto) (the_files.held old s.input) journal (status_of_answer answer) a.outcome of).opens in
      record {
        outcome = a.outcome;
        of = record {
          text = bytes;
          of_program = subst (λ t. IfSome (the_files.held old s.program) (λ b. b ≡ t)) (sym reads.tells.0) reads.holds;
          of_text = of;
        };
        decides = decides_since (as_memory answer) a.outcome _ _ (rose_later _ _ _ keeps.faults_later) a.decides;
        opened = opened_then the_files old mid new s.program (s.input ∷ []) a.outcome.opens (status_of_answer (as_memory answer)) some names keeps after one
            a.opened;
      }

-- ---- the file of types

-- an outcome after a file of types opens that file too
answered_file : (name : List ℕ) (file : FileReading) (go : List TypeShape → Answer) → ((types : List TypeShape) → IsAnswered (go types))
    → IsAnswered (after_file (Some name) (outcome_of_file file go))
answered_file name (bad_file f) go each = record { opens = omega arith; other = λ e. cc }
answered_file name (with_types types) go each = record { opens = omega arith; other = (each types).other }

module _ {F K : Type 0} (the_files : files.Ghosts F) (the_disk : disks.Ghosts K) (s : RunSettings) (old : F) (disk : K) where
  -- the names that may be opened
  abbrev names_for : List (List ℕ)
  names_for = option_to_list s.proto ++ s.program ∷ s.input ∷ []

  abbrev OfJob : F → Result (List ℕ) Failure → Type 0
  OfJob new answer = AnswersJob the_files (λ st outcome. IsJobOutcome the_files the_disk s st old disk outcome) names_for (λ n. n) old new answer

  module _ (file_name : List ℕ) (named : s.proto ≡ Some file_name) (new : F) where
    -- the file couldn't be read, or is refused
    untyped : (f : Failure) (bytes : List ℕ) (file : FileReading) → IsFileRead bytes file → IfSome (the_files.held old file_name) (λ told. told ≡ bytes)
        → ((IsSo : Marked → List Slot → Type 0) (reading : Reading) → IfKnown (status_of f) (IfRun s file reading IsSo))
        → ((go : List TypeShape → Answer) → IsAnswered (after_file (Some file_name) (outcome_of_file file go))
        → Decides (as_memory {T = List ℕ} (Err f)) (after_file (Some file_name) (outcome_of_file file go))
        (Rose (the_files.faults old) (the_files.faults new)))
        → ((go : List TypeShape → Answer) → IsAnswered (after_file (Some file_name) (outcome_of_file file go))
        → OpensFiles the_files old new (file_name ∷ s.program ∷ s.input ∷ []) (after_file (Some file_name) (outcome_of_file file go)).opens
        (status_of_answer (as_memory {T = List ℕ} (Err f)))) → OfJob new (Err f)
    untyped f bytes file read holds known decides opened =
        let text = unwrap_or (the_files.held old s.program) [] in
        let t = every_text_is_read text in
        let told = the_files.held old s.input in
        let name = kept_job s text bytes in
        let input = unwrap_or told [] in
        let c = cut_of s.frame input in
        let rest = rest_of_file s name told (the_disk.bytes disk) c.cut file t.reading in
        let by = unless_journal name Empty (length input) in
        let go = outcome_after_read s by rest.rest t.reading in
        let other = answered_after rest.behind.end rest.behind.ending rest.behind.output rest.rest rest.behind.is in
        let a = answered_file file_name file go (λ types. answered_read s by rest.rest other types t.reading) in
        let same : after_file (Some file_name) (outcome_of_file file go) ≡ outcome_of_resume s file t.reading by rest.rest
        = ap (λ n. after_file n (outcome_of_file file go)) (sym named) in
        record {
          outcome = after_file (Some file_name) (outcome_of_file file go);
          of = record {
            proto = bytes;
            file = file;
            file_read = read;
            of_file = subst (λ n. IsOfFile n (the_files.held old) bytes) (sym named) holds;
            text = text;
            reading = t.reading;
            read = t.read;
            of_program = holds_or (the_files.held old s.program) [];
            by_journal = record {
              input = input;
              cut = c.cut;
              is_cut = c.is_cut;
              of_input = holds_or told [];
              standing = Empty;
              stands = known _ t.reading;
              rest = rest.rest;
              behind = rest.behind;
              is = same;
            };
          };
          decides = decides go a;
          opened = subst (λ n. OpensFiles the_files old new (option_to_list n ++ s.program ∷ s.input ∷ [])
              (after_file (Some file_name) (outcome_of_file file go)).opens (status_of_answer (as_memory {T = List ℕ} (Err f)))) (sym named) (opened go a);
        }

    types_unread : (f : Failure) → ReadsTypes the_files file_name old new (Err f) → OfJob new (Err f)
    types_unread (failure.BadProtoFile f) r =
        untyped (failure.BadProtoFile f) r.bytes (bad_file f) r.tells r.holds (λ IsSo reading known memory. tt) (λ go a. refl)
        (λ go a. opened_one the_files old new file_name (s.program ∷ s.input ∷ []) 1 status.BadProtoFile (omega arith) r.gained (λ known memory. refl) r.opened)
    types_unread failure.ReadFailed r =
        let g = every_file_is_read r.bytes in
        untyped failure.ReadFailed r.bytes g.file g.read r.holds (λ IsSo reading known memory. absurd (known refl)) (λ go a. (r.tells, a.other))
        (λ go a. opened_one the_files old new file_name (s.program ∷ s.input ∷ []) _ status.ReadFailed a.opens r.gained (λ known memory. absurd (known refl))
        r.opened)
    types_unread failure.NoMemory r =
        let g = every_file_is_read r.bytes in
        untyped failure.NoMemory r.bytes g.file g.read r.holds (λ IsSo reading known memory. absurd (memory refl)) (λ go a. tt)
        (λ go a. opened_or_none the_files old new file_name (s.program ∷ s.input ∷ []) _ a.opens r.gained)
    types_unread _ r = absurd r.tells

  pub types_fail : (f : Failure) (new : F) → GivesTypes the_files s.proto old new (Err f) → OfJob new (Err f)
  types_fail f new gives = by s.proto refl gives
    where
      by : (name : Option (List ℕ)) → s.proto ≡ name → GivesTypes the_files name old new (Err f) → OfJob new (Err f)
      by None e g = let no = g.1 in absurd (cc)
      by (Some file_name) e g = types_unread file_name e new f g

  -- nothing was read
  bytes_or : Option (List ℕ) → List ℕ
  bytes_or None = []
  bytes_or (Some name) = unwrap_or (the_files.held old name) []

  is_or : (name : Option (List ℕ)) → IsOfFile name (the_files.held old) (bytes_or name)
  unfolding bytes_or
  is_or None = refl
  is_or (Some name) = holds_or (the_files.held old name) []

  pub nothing_answered : OfJob old (Err failure.NoMemory)
  nothing_answered =
      let bytes = bytes_or s.proto in
      let g = every_file_is_read bytes in
      let text = unwrap_or (the_files.held old s.program) [] in
      let t = every_text_is_read text in
      let told = the_files.held old s.input in
      let name = kept_job s text bytes in
      let input = unwrap_or told [] in
      let c = cut_of s.frame input in
      let rest = rest_of_file s name told (the_disk.bytes disk) c.cut g.file t.reading in
      record {
        outcome = outcome_of_resume s g.file t.reading (unless_journal name Empty (length input)) rest.rest;
        of = record {
          proto = bytes;
          file = g.file;
          file_read = g.read;
          of_file = is_or s.proto;
          text = text;
          reading = t.reading;
          read = t.read;
          of_program = holds_or (the_files.held old s.program) [];
          by_journal = record {
            input = input;
            cut = c.cut;
            is_cut = c.is_cut;
            of_input = holds_or told [];
            standing = Empty;
            stands = λ known memory. absurd (memory refl);
            rest = rest.rest;
            behind = rest.behind;
            is = refl;
          };
        };
        decides = tt;
        opened = opened_none the_files old names_for _ status.NoMemory (λ e. cc) (λ known memory. absurd (memory refl));
      }

  -- the types are known, and the program's file is answered
  module _ (mid new : F) (types : List TypeShape) (bytes : List ℕ) (answer : Result (List ℕ) Failure)
      (keeps : KeepsFiles the_files.held the_files.left the_files.given the_files.faults old mid)
      (after : KeepsFiles the_files.held the_files.left the_files.given the_files.faults mid new) where
    pub file_resumed : GivesTypes the_files s.proto old mid (Ok types) → IsFileRead bytes (with_types types) → IsOfFile s.proto (the_files.held old) bytes
        → AnswersJob the_files (IsFileOutcome the_files s types bytes (the_disk.bytes disk) mid) (s.program ∷ s.input ∷ []) (λ n. n) mid new answer
        → OfJob new answer
    file_resumed gives read of_file a =
        let b = a.of.of_text.by_journal in
        record {
          outcome = after_file s.proto a.outcome;
          of = record {
            proto = bytes;
            file = with_types types;
            file_read = read;
            of_file = of_file;
            text = a.of.text;
            reading = a.of.of_text.reading;
            read = a.of.of_text.read;
            of_program = subst (λ h. IfSome h (λ b. b ≡ a.of.text)) (keeps.held_same s.program) a.of.of_program;
            by_journal = record {
              input = b.input;
              cut = b.cut;
              is_cut = b.is_cut;
              of_input = subst (λ h. IfSome h (λ bs. bs ≡ b.input)) (keeps.held_same s.input) b.of_input;
              standing = b.standing;
              stands = b.stands;
              rest = b.rest;
              behind = record {
                end = b.behind.end;
                ending = b.behind.ending;
                output = b.behind.output;
                is = b.behind.is;
                of_run = (subst (λ h. IsRest s (IfSpelled s types a.of.of_text.reading) (kept_job s a.of.text bytes) h b.cut (the_disk.bytes disk) b.rest)
                    (keeps.held_same s.input) b.behind).of_run;
              };
              is = ap (after_file s.proto) b.is;
            };
          };
          decides = by_decides s.proto;
          opened = by_opened s.proto gives;
        }
      where
        rose : Decides (as_memory answer) a.outcome (Rose (the_files.faults old) (the_files.faults new))
        rose = decides_since (as_memory answer) a.outcome _ _ (rose_later _ _ _ keeps.faults_later) a.decides

        by_decides : (name : Option (List ℕ)) → Decides (as_memory answer) (after_file name a.outcome) (Rose (the_files.faults old) (the_files.faults new))
        by_decides None = rose
        by_decides (Some name) = decides_after name (as_memory answer) a.outcome _ rose

        by_opened : (name : Option (List ℕ)) → GivesTypes the_files name old mid (Ok types)
            → OpensFiles the_files old new (option_to_list name ++ s.program ∷ s.input ∷ []) (after_file name a.outcome).opens
            (status_of_answer (as_memory answer))
        by_opened None g =
            subst (λ m. OpensFiles the_files m new (s.program ∷ s.input ∷ []) a.outcome.opens (status_of_answer (as_memory answer))) g.0 a.opened
        by_opened (Some name) g =
            let less : suc a.outcome.opens - 1 ≡ a.outcome.opens = omega arith in
            opened_then the_files old mid new name (s.program ∷ s.input ∷ []) (suc a.outcome.opens) (status_of_answer (as_memory answer)) (omega arith)
            g.gained keeps after (g.opened (λ e. cc) (λ e. cc))
            (subst (λ k. OpensFiles the_files mid new (s.program ∷ s.input ∷ []) k (status_of_answer (as_memory answer))) (sym less) a.opened)

-- ---- what is left of the journal

module _ {F K : Type 0} (the_files : files.Ghosts F) (the_disk : disks.Ghosts K) (s : RunSettings) (st : Status) where
  -- nothing was written
  pub nothing_left : (old : F) (disk : K) → st ≢ status.Done → AreAmong (the_disk.left_since disk (the_disk.time disk)) (the_disk.may_leave disk)
      → KeepsJournal the_files the_disk s st old disk disk
  nothing_left old disk unfinished now = record {
    entries = entries_untouched the_disk (IsNameFor s) disk now;
    of_job = λ text proto file reading t p file_read read. by text proto reading file;
  }
    where
      by : (text proto : List ℕ) (reading : Reading) (file : FileReading)
          → KeepsDisk the_disk s (IfRun s file reading) (kept_job s text proto) (the_files.held old s.input) st disk disk
      by text proto reading (bad_file f) = record {
        untouched = λ none. refl;
        entries = entries_untouched the_disk (λ other. other ≡ kept_job s text proto) disk now;
        found = λ input held t rests. tt;
      }
      by text proto reading (with_types types) =
          nothing_kept the_disk s types (kept_job s text proto) (the_files.held old s.input) st reading disk unfinished now

  -- what the program's file leaves
  pub file_keeps : (old mid : F) (types : List TypeShape) (bytes : List ℕ) (disk new : K)
      → ((name : List ℕ) → the_files.held mid name ≡ the_files.held old name) → IsFileRead bytes (with_types types)
      → IsOfFile s.proto (the_files.held old) bytes
      → ((text : List ℕ) (reading : Reading) → the_files.held mid s.program ≡ Some text → IsRead text reading
      → KeepsDisk the_disk s (IfSpelled s types reading) (kept_job s text bytes) (the_files.held mid s.input) st disk new)
      → KeepsEntries the_disk (IsNameFor s) disk new → KeepsJournal the_files the_disk s st old disk new
  file_keeps old mid types bytes disk new same read of_file k entries =
      record { entries = entries; of_job = λ text proto file reading t p file_read is_read. of_job text proto file reading t p file_read is_read }
    where
      of_job : (text proto : List ℕ) (file : FileReading) (reading : Reading) → the_files.held old s.program ≡ Some text
          → IsToldFile s.proto (the_files.held old) proto → IsFileRead proto file → IsRead text reading
          → KeepsDisk the_disk s (IfRun s file reading) (kept_job s text proto) (the_files.held old s.input) st disk new
      of_job text proto file reading t p file_read is_read =
          let bytes_are : bytes ≡ proto = by s.proto of_file p in
          let file_is : with_types types ≡ file
          = one_file_reading proto (with_types types) file (subst (λ (b : List ℕ). IsFileRead b (with_types types)) bytes_are read) file_read in
          subst (λ f. KeepsDisk the_disk s (IfRun s f reading) (kept_job s text proto) (the_files.held old s.input) st disk new) file_is
          (subst (λ (b : List ℕ). KeepsDisk the_disk s (IfSpelled s types reading) (kept_job s text b) (the_files.held old s.input) st disk new) bytes_are
          (subst (λ h. KeepsDisk the_disk s (IfSpelled s types reading) (kept_job s text bytes) h st disk new) (same s.input)
          (k text reading (same s.program ∙ t) is_read)))
        where
          by : (name : Option (List ℕ)) → IsOfFile name (the_files.held old) bytes → IsToldFile name (the_files.held old) proto → bytes ≡ proto
          by None of p = of ∙ sym p
          by (Some name) of p = sym (subst (λ h. IfSome h (λ told. told ≡ bytes)) p of)

-- the text that was read is the one that is told
pub text_told : (told : Option (List ℕ)) (text bytes : List ℕ) (rose : Type 0) → told ≡ Some text
    → ReadsText told most_program_bytes past_program rose (Ok bytes) → bytes ≡ text
text_told told text bytes rose t reads = reads.tells.0 ∙ sym (subst (λ h. IfSome h (λ b. b ≡ reads.text)) t reads.holds)
