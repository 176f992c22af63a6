-- The answer for the settings of a command line, from that for the program's text.
use Rattle.std.proofs.Common.{◌≡◌, ◌≢◌, ℕ, zero, suc, ◌<◌, ◌≤◌, ◌⊎◌, List, [], ◌∷◌, ◌++◌, length, take}
use Rattle.std.proofs.Common.{Option, Some, None, refl, sym, ap, ◌∙◌, subst, arith, inl, inr, append_assoc}
use Rattle.std.specs.Prelude.{IfSome, IsSome, IsTrue, unwrap_or, Result, Ok, Err, OnOk}
use Rattle.std.specs.Io.KnownBytes.{IsAtEnd}
use Rattle.sz_io.specs.Rose.{Rose}
use Rattle.sz_protofile.specs.Types.{TypeShape}
use Rattle.sz_io.specs.Opened.{KeepsFiles}
use Rattle.sz_io.specs.Calls.{NamesGain, OpensOne, ReadToEnd}
use Rattle.sz_io.proofs.ForCallers.{rose_later}
use Rattle.sz_io.specs.declared.files.Files as files
use Rattle.sz_core.specs.Programs.{Core}
use Rattle.sz_mean.specs.Marked.{Marked}
use Rattle.szl.specs.Savable.{savable}
use Rattle.sz_world_rules.specs.World.{Done, Faulted}
use Rattle.sz_world_rules.specs.World as world
use Rattle.sz_world_rules.specs.Slots.{Slot}
use Rattle.sz_mean.specs.Programs.{statics}
use Rattle.sz_tabs.specs.Data.{EmitDatum}
use Rattle.sz_records.specs.declared.ending.Ending.{Ending}
use Rattle.sz_records.specs.declared.ending.Ending.TheVariants.{Whole, Damaged, Limit}
use Rattle.sz_words.specs.declared.settings.RunSettings.{RunSettings}
use Rattle.sz_words.specs.declared.settings.Settings.{Settings}
use Rattle.sz_words.specs.declared.settings.Settings.TheVariants.{Run, Check, Resume}
use Rattle.szl.specs.declared.status.Status.{Status}
use Rattle.szl.specs.declared.status.Status.TheVariants as status
use Rattle.szl.specs.declared.failure.Failure.{Failure}
use Rattle.szl.specs.declared.failure.Failure.TheVariants as failure
use Rattle.szl.specs.Failing.{status_of}
use Rattle.szl.specs.Opening.{ReadsText, ran_out, past_program, status_of_answer, Decides, AnswersWith, AnswersText, AnswersCheck}
use Rattle.szl.specs.Answers.{Answer}
use Rattle.szl.specs.Outcome.{written, outcome_of_shards, outcome_of_statics, outcome_of_checked_run, outcome_of_run}
use Rattle.szl.specs.Outcome.{outcome_of_check, outcome_of_checked, outcome_with, outcome_refused}
use Rattle.sz_refusals.specs.declared.refusal.Refusal.{Refusal}
use Rattle.szl.specs.Checking.{checked}
use Rattle.sz_refusals.specs.Texts.{most_program_bytes}
use Rattle.szl.specs.Judgement.{Reading, spells}
use Rattle.szl.specs.Judgement as readings
use Rattle.szl.specs.Judging.{IsFailureOf}
use Rattle.szl.specs.Merging.{Merged, bad}
use Rattle.szl.specs.Promise.{IfRead, OpensFiles, later_names, AreOfFiles, IsMergedFor, AreReadToEnd}
use Rattle.szl.specs.Records.{Cut}
use Rattle.szl.specs.Shards.{shards_in, job_of}
use Rattle.sz_workers.specs.Outcomes.{ShardsEnd, emitted, faulted, lost, outcome_of}
use Rattle.szl.specs.Settings.{frame_asked}
use Rattle.szl.proofs.JudgementLemmas.{every_text_is_read}
use Rattle.szl.proofs.OpeningLemmas.{holds_or}
use Rattle.szl.proofs.OpenedLemmas.{opened_none, opened_one, opened_or_none, opened_then, take_first, take_none}
use Rattle.szl.proofs.AnswerLemmas.{cut_of}
use Rattle.szl.proofs.SaysLemmas.{says}

-- an outcome that opens a file, and is no bad command line
pub record IsAnswered (a : Answer) : Type 0 where
  pub opens : 1 ≤ a.opens
  pub other : a.status ≢ status.Usage

answered_shards : (write : List EmitDatum → List ℕ) (ending : Ending) (o : ShardsEnd) → IsAnswered (outcome_of_shards write ending o)
answered_shards write Whole (emitted es n) = record { opens = omega arith; other = λ e. cc }
answered_shards write (Damaged b) (emitted es n) = record { opens = omega arith; other = λ e. cc }
answered_shards write (Limit b) (emitted es n) = record { opens = omega arith; other = λ e. cc }
answered_shards write ending (faulted zero f) = record { opens = omega arith; other = λ e. cc }
answered_shards write ending (faulted (suc k) f) = record { opens = omega arith; other = λ e. cc }
answered_shards write ending (lost n) = record { opens = omega arith; other = λ e. cc }

answered_statics : (program : Marked) (s : RunSettings) (cut : Cut) (o : world.Outcome (List Slot)) → IsAnswered (outcome_of_statics program s cut o)
answered_statics program s cut (Faulted f) = record { opens = omega arith; other = λ e. cc }
answered_statics program s cut (Done slots) =
    answered_shards (written program s.save (length cut.records) s.budget) cut.ending (outcome_of (job_of program slots s) (shards_in s.shard cut.records))

answered_refused : (r : Refusal) → IsAnswered (outcome_refused r)
answered_refused r = record { opens = omega arith; other = λ e. cc }

answered_checked_run : (s : RunSettings) (cut : Cut) (found : Result Marked Refusal) → IsAnswered (outcome_of_checked_run s cut found)
answered_checked_run s cut (Ok p) = answered_statics p s cut (statics p s.budget)
answered_checked_run s cut (Err r) = answered_refused r

answered_run : (types : List TypeShape) (s : RunSettings) (cut : Cut) (reading : Reading) → IsAnswered (outcome_of_run types s cut reading)
answered_run types s cut (readings.refused r) = answered_refused r
answered_run types s cut (spells ss) = answered_checked_run s cut (savable types s.save s.ignore_undefs ss)

answered_checked : (found : Result Core Refusal) → IsAnswered (outcome_of_checked found)
answered_checked (Ok p) = record { opens = omega arith; other = λ e. cc }
answered_checked (Err r) = answered_refused r

answered_check : (types : List TypeShape) (reading : Reading) → IsAnswered (outcome_of_check types reading)
answered_check types (readings.refused r) = answered_refused r
answered_check types (spells ss) = answered_checked (checked types ss)

-- settings that name a program
pub data NamesProgram : Settings → List ℕ → Type 0 where
  of_run : (s : RunSettings) → NamesProgram (Run s) s.program
  of_check : (program : List ℕ) (proto : Option (List ℕ)) → NamesProgram (Check program proto) program

pub answered : (types : List TypeShape) (s : Settings) (name : List ℕ) → NamesProgram s name → (reading : Reading) (cut : Cut) (merged : Merged)
    → IsAnswered (outcome_with types (Some s) reading cut merged)
answered types _ _ (of_run s) reading cut merged = answered_run types s cut reading
answered types _ _ (of_check program proto) reading cut merged = answered_check types reading

-- such settings join no files
pub joins_nothing : (s : Settings) (name : List ℕ) → NamesProgram s name → (saved : List (List ℕ)) (merged : Merged) → IsMergedFor (Some s) saved merged
joins_nothing _ _ (of_run s) saved merged = tt
joins_nothing _ _ (of_check program proto) saved merged = tt

-- a text past the limit is read as refused
pub long_failure : (text : List ℕ) (f : Failure) → f ≡ past_program → most_program_bytes < length text → IsFailureOf text f
long_failure text f is long = subst (IsFailureOf text) (sym is) ((long, refl), refl)

-- a count that rose later rose
pub decides_since : (answer : Result (List ℕ) Failure) (outcome : Answer) (later since : Type 0) → (later → since)
    → Decides answer outcome later → Decides answer outcome since
decides_since (Ok output) outcome later since rose h = h
decides_since (Err failure.ReadFailed) outcome later since rose h = (rose h.0, h.1)
decides_since (Err _) outcome later since rose h = h

-- a fact under what may be told
pub under : (P : Type 0) (h : Option (List ℕ)) → P → IfSome h (λ _. P)
under P None p = tt
under P (Some bytes) p = p

over : (P : Type 0) (h k : Option (List ℕ)) → IfSome h (λ _. P) → IfSome h (λ _. IfSome k (λ _. P))
over P None k p = tt
over P (Some bytes) None p = tt
over P (Some bytes) (Some more) p = p

module _ {F : Type 0} (the_files : files.Ghosts F) (types : List TypeShape) (old : F) where
  -- an answer without any file, for settings that may name some, whose program would be read so, or whose files would be joined so
  pub unopened : (asked : Option Settings) (text input : List ℕ) (reading : Reading) → readings.IsRead text reading → (saved : List (List ℕ))
      → (merged : Merged) → IsMergedFor asked saved merged
      → AreOfFiles asked (the_files.held old) text input saved → (f : Failure) → status_of f ≢ status.ReadFailed
      → ((cut : Cut) → IfRead (status_of f) ([] ≡ take (outcome_with types asked reading cut merged).opens (later_names asked)))
      → ((cut : Cut) → Decides (Err f) (outcome_with types asked reading cut merged) (Rose (the_files.faults old) (the_files.faults old)))
      → AnswersWith the_files types asked old old (Err f)
  unopened asked text input reading read saved merged is_merged of_files f other none decides = let c = cut_of (frame_asked asked) input in record {
    text = text;
    reading = reading;
    read = read;
    input = input;
    cut = c.cut;
    is_cut = c.is_cut;
    saved = saved;
    merged = merged;
    is_merged = is_merged;
    of_files = of_files;
    decides = decides c.cut;
    opened = opened_none the_files old (later_names asked) _ (status_of f) other (none c.cut);
  }

  -- words that are no command line ask for no file
  pub no_settings : AnswersWith the_files types None old old (Err failure.Usage)
  no_settings = let r = every_text_is_read [] in unopened None [] [] r.reading r.read [] (bad 0) tt tt failure.Usage (λ e. cc)
      (λ cut read memory. refl) (λ cut. says refl)

  -- nor does a job that is resumed, where there is no disk
  pub no_disk : (s : RunSettings) → AnswersWith the_files types (Some (Resume s)) old old (Err failure.Usage)
  no_disk s = let r = every_text_is_read [] in unopened (Some (Resume s)) [] [] r.reading r.read [] (bad 0) tt tt failure.Usage (λ e. cc)
      (λ cut read memory. refl) (λ cut. says refl)

-- the outcome of a refused text is its refusal, whatever the command
refused_outcome : (types : List TypeShape) (s : Settings) (name : List ℕ) → NamesProgram s name → (r : Refusal) (cut : Cut) (merged : Merged)
    → outcome_with types (Some s) (readings.refused r) cut merged ≡ outcome_refused r
refused_outcome types _ _ (of_run s) r cut merged = refl
refused_outcome types _ _ (of_check program proto) r cut merged = refl

-- an input that the files may hold
pub input_or : (held : List ℕ → Option (List ℕ)) (s : Settings) (name : List ℕ) → NamesProgram s name → List ℕ
input_or held _ _ (of_run s) = unwrap_or (held s.input) []
input_or held _ _ (of_check program proto) = []

pub files_or : (held : List ℕ → Option (List ℕ)) (s : Settings) (name : List ℕ) (n : NamesProgram s name) (text : List ℕ)
    → IfSome (held name) (λ bytes. bytes ≡ text) → AreOfFiles (Some s) held text (input_or held s name n) []
unfolding input_or
files_or held _ _ (of_run s) text h = (h, holds_or (held s.input) [])
files_or held _ _ (of_check program proto) text h = h

-- the program's name was opened, or no name
module _ {F : Type 0} (the_files : files.Ghosts F) (old new : F) where
  opened_first : (s : Settings) (name : List ℕ) → NamesProgram s name → (most : ℕ) (st : Status) → 1 ≤ most
      → the_files.names new ≡ the_files.names old ++ name ∷ [] → IfRead st (most ≡ 1) → IfRead st (OpensOne the_files old new)
      → OpensFiles the_files old new (later_names (Some s)) most st
  opened_first _ _ (of_run s) most st some is all one =
      opened_one the_files old new s.program (s.input ∷ []) most st some is
      (λ read memory. ap (λ n. take n (s.program ∷ s.input ∷ [])) (sym (all read memory))) one
  opened_first _ _ (of_check program proto) most st some is all one =
      opened_one the_files old new program [] most st some is (λ read memory. ap (λ n. take n (program ∷ [])) (sym (all read memory))) one

  gained_first : (s : Settings) (name : List ℕ) → NamesProgram s name → (most : ℕ) → 1 ≤ most
      → (the_files.names new ≡ the_files.names old) ⊎ (the_files.names new ≡ the_files.names old ++ name ∷ [])
      → OpensFiles the_files old new (later_names (Some s)) most status.NoMemory
  gained_first _ _ (of_run s) most some gains = opened_or_none the_files old new s.program (s.input ∷ []) most some gains
  gained_first _ _ (of_check program proto) most some gains = opened_or_none the_files old new program [] most some gains

module _ {F : Type 0} (the_files : files.Ghosts F) (types : List TypeShape) (s : Settings) (name : List ℕ) (n : NamesProgram s name) (old new : F) where
  -- the program's text was read so, or nothing came of it
  failed_on : (text : List ℕ) (reading : Reading) → readings.IsRead text reading → IfSome (the_files.held old name) (λ bytes. bytes ≡ text)
      → (f : Failure)
      → ((cut : Cut) → Decides (Err f) (outcome_with types (Some s) reading cut (bad 0)) (Rose (the_files.faults old) (the_files.faults new)))
      → ((cut : Cut) → OpensFiles the_files old new (later_names (Some s)) (outcome_with types (Some s) reading cut (bad 0)).opens (status_of f))
      → AnswersWith the_files types (Some s) old new (Err f)
  failed_on text reading read holds f decides opened =
      let input = input_or (the_files.held old) s name n in
      let c = cut_of (frame_asked (Some s)) input in
      record {
        text = text;
        reading = reading;
        read = read;
        input = input;
        cut = c.cut;
        is_cut = c.is_cut;
        saved = [];
        merged = bad 0;
        is_merged = joins_nothing s name n [] (bad 0);
        of_files = files_or (the_files.held old) s name n text holds;
        decides = decides c.cut;
        opened = opened c.cut;
      }

  some_opened : (reading : Reading) (cut : Cut) → 1 ≤ (outcome_with types (Some s) reading cut (bad 0)).opens
  some_opened reading cut = (answered types s name n reading cut (bad 0)).opens

  -- the program's text couldn't be read
  pub text_fails : (f : Failure)
      → ReadsText (the_files.held old name) most_program_bytes past_program (Rose (the_files.faults old) (the_files.faults new)) (Err f)
      → NamesGain (ran_out {A = List ℕ} (Err f)) (the_files.names old) (the_files.names new) name
      → IfRead (status_of f) (OpensOne the_files old new) → AnswersWith the_files types (Some s) old new (Err f)
  text_fails (failure.Refused r) reads gains one =
      let reading = readings.refused r in
      failed_on reads.text reading (long_failure reads.text (failure.Refused r) reads.tells.0 reads.tells.1) reads.holds
      (failure.Refused r) (λ cut. says (refused_outcome types s name n r cut (bad 0)))
      (λ cut. opened_first the_files old new s name n _ status.Program (some_opened reading cut) gains
      (λ read memory. ap (λ (o : Answer). o.opens) (refused_outcome types s name n r cut (bad 0))) one)
  text_fails failure.ReadFailed reads gains one =
      let r = every_text_is_read reads.text in
      failed_on reads.text r.reading r.read reads.holds failure.ReadFailed
      (λ cut. (reads.tells, (answered types s name n r.reading cut (bad 0)).other))
      (λ cut. opened_first the_files old new s name n _ status.ReadFailed (some_opened r.reading cut) gains (λ read memory. absurd (read refl)) one)
  text_fails failure.NoMemory reads gains one =
      let r = every_text_is_read reads.text in
      failed_on reads.text r.reading r.read reads.holds failure.NoMemory (λ cut. tt)
      (λ cut. gained_first the_files old new s name n _ (some_opened r.reading cut) gains)
  text_fails _ reads gains one = let e = reads.tells.0 in absurd (cc)

-- a fact that holds whatever was answered, or follows from two that hold where a call succeeded
pub when_ok : {T E P : Type 0} (r : Result T E) → P → OnOk r P
when_ok (Ok value) p = p
when_ok (Err error) p = tt

pub both_when_ok : {T E P Q R : Type 0} (r : Result T E) → (P → Q → R) → OnOk r P → OnOk r Q → OnOk r R
both_when_ok (Ok value) f p q = f p q
both_when_ok (Err error) f p q = tt

-- the program's text was read, and the rest of a run is answered on it
pub text_read : {F : Type 0} (the_files : files.Ghosts F) (types : List TypeShape) (s : RunSettings) (name : List ℕ) → name ≡ s.program →
    (old mid new : F) (bytes : List ℕ)
    (answer : Result (List ℕ) Failure) (rose : Type 0) → ReadsText (the_files.held old name) most_program_bytes past_program rose (Ok bytes)
    → the_files.names mid ≡ the_files.names old ++ name ∷ [] → KeepsFiles the_files.held the_files.left the_files.given the_files.faults old mid
    → KeepsFiles the_files.held the_files.left the_files.given the_files.faults mid new → OpensOne the_files old mid
    → AnswersText the_files types s bytes mid new answer → AnswersWith the_files types (Some (Run s)) old new answer
text_read the_files types s name is old mid new bytes answer rose reads names keeps after one t =
    let a = t.answers in
    let o = outcome_of_run types s a.cut t.reading in
    let some = (answered_run types s a.cut t.reading).opens in
    let named = names ∙ ap (λ n. the_files.names old ++ n ∷ []) is in
    let text = subst (λ t. IfSome (the_files.held old name) (λ b. b ≡ t)) (sym reads.tells.0) reads.holds in
    record {
      text = bytes;
      reading = t.reading;
      read = t.read;
      input = a.input;
      cut = a.cut;
      is_cut = a.is_cut;
      saved = [];
      merged = bad 0;
      is_merged = tt;
      of_files = (
        subst (λ n. IfSome (the_files.held old n) (λ b. b ≡ bytes)) is text,
        subst (λ h. IfSome h (λ b. b ≡ a.input)) (keeps.held_same s.input) a.holds,
      );
      decides = decides_since answer o _ _ (rose_later _ _ _ keeps.faults_later) a.decides;
      opened = opened_then the_files old mid new s.program (s.input ∷ []) o.opens (status_of_answer answer) some named keeps after one a.opened;
    }

-- the program's text was read, and its check is answered on it
pub text_checked : {F : Type 0} (the_files : files.Ghosts F) (types : List TypeShape) (program : List ℕ) (proto : Option (List ℕ)) (old new : F)
    (bytes : List ℕ) (answer : Result (List ℕ) Failure)
    (rose : Type 0) → ReadsText (the_files.held old program) most_program_bytes past_program rose (Ok bytes)
    → the_files.names new ≡ the_files.names old ++ program ∷ [] → OpensOne the_files old new → AnswersCheck types bytes answer
    → AnswersWith the_files types (Some (Check program proto)) old new answer
text_checked the_files types program proto old new bytes answer rose reads names one t = let c = cut_of (frame_asked (Some (Check program proto))) []
    in record {
      text = bytes;
      reading = t.reading;
      read = t.read;
      input = [];
      cut = c.cut;
      is_cut = c.is_cut;
      saved = [];
      merged = bad 0;
      is_merged = tt;
      of_files = subst (λ t. IfSome (the_files.held old program) (λ b. b ≡ t)) (sym reads.tells.0) reads.holds;
      decides = decides_since answer (outcome_of_check types t.reading) ⊥ _ (λ never. absurd never) t.decides;
      opened =
          let some = (answered_check types t.reading).opens in
          opened_one the_files old new program [] _ (status_of_answer answer) some names
          (λ read memory. ap (λ ns. program ∷ ns) (sym (take_none _)) ∙ take_first program [] _ some) (λ read memory. one);
    }

module _ {F : Type 0} (the_files : files.Ghosts F) (program : List ℕ) (old : F) where
  -- one file was read to its end
  pub one_read : (new : F) → the_files.names new ≡ the_files.names old ++ program ∷ []
      → ReadToEnd the_files old new program → AreReadToEnd the_files old new (program ∷ [])
  one_read new names r = record {
    all_opened = names;
    each = record { opened = r.file ∷ []; one_each = refl; are_new = ((r.not_before, r.given_now), (tt, tt)) };
    none_left = λ file fresh given. subst (λ f. IsAtEnd (the_files.left new f)) (sym (the_one file fresh (r.no_other file given))) r.none_left;
    told = λ file fresh given. subst (λ f. IfSome (the_files.held old program) (λ _. IsSome (the_files.left new f)))
        (sym (the_one file fresh (r.no_other file given))) r.told;
  }
    where
      the_one : (file : ℕ) → (IsTrue (the_files.given old file) → ⊥) → (file ≡ r.file) ⊎ IsTrue (the_files.given old file) → file ≡ r.file
      the_one file fresh (inl is) = is
      the_one file fresh (inr was) = absurd (fresh was)

  -- both files were read to their end
  pub both_read : (name : List ℕ) (mid new : F) → the_files.names mid ≡ the_files.names old ++ program ∷ []
      → the_files.names new ≡ the_files.names mid ++ name ∷ []
      → KeepsFiles the_files.held the_files.left the_files.given the_files.faults old mid
      → KeepsFiles the_files.held the_files.left the_files.given the_files.faults mid new
      → ReadToEnd the_files old mid program → ReadToEnd the_files mid new name → AreReadToEnd the_files old new (program ∷ name ∷ [])
  both_read name mid new first second kept later r1 r2 = record {
    each = record {
      opened = r1.file ∷ r2.file ∷ [];
      one_each = refl;
      are_new = (
        (r1.not_before, later.given_still r1.file r1.given_now),
        ((apart, tt), ((λ was. r2.not_before (kept.given_still r2.file was), r2.given_now), (tt, tt))),
      );
    };
    all_opened = second ∙ ap (λ ns. ns ++ name ∷ []) first ∙ append_assoc (the_files.names old) (program ∷ []) (name ∷ []);
    none_left = λ file fresh given. ended file fresh (r2.no_other file given);
    told = λ file fresh given. tells file fresh (r2.no_other file given);
  }
    where
      apart : r1.file ≡ r2.file → ⊥
      apart same = r2.not_before (subst (λ f. IsTrue (the_files.given mid f)) same r1.given_now)

      left_first : the_files.left new r1.file ≡ the_files.left mid r1.file
      left_first = later.left_same r1.file r1.given_now

      by_first : (file : ℕ) → (IsTrue (the_files.given old file) → ⊥) → (file ≡ r1.file) ⊎ IsTrue (the_files.given old file) → file ≡ r1.file
      by_first file fresh (inl is) = is
      by_first file fresh (inr was) = absurd (fresh was)

      ended : (file : ℕ) → (IsTrue (the_files.given old file) → ⊥) → (file ≡ r2.file) ⊎ IsTrue (the_files.given mid file) → IsAtEnd (the_files.left new file)
      ended file fresh (inl is) = subst (λ f. IsAtEnd (the_files.left new f)) (sym is) r2.none_left
      ended file fresh (inr was) =
          subst (λ f. IsAtEnd (the_files.left new f)) (sym (by_first file fresh (r1.no_other file was))) (subst IsAtEnd (sym left_first) r1.none_left)

      tells : (file : ℕ) → (IsTrue (the_files.given old file) → ⊥) → (file ≡ r2.file) ⊎ IsTrue (the_files.given mid file)
          → IfSome (the_files.held old program) (λ _. IfSome (the_files.held old name) (λ _. IsSome (the_files.left new file)))
      tells file fresh (inl is) = under _ (the_files.held old program)
          (subst (λ f. IfSome (the_files.held old name) (λ _. IsSome (the_files.left new f))) (sym is)
          (subst (λ h. IfSome h (λ _. IsSome (the_files.left new r2.file))) (kept.held_same name) r2.told))
      tells file fresh (inr was) =
          let at_first = subst (λ h. IfSome (the_files.held old program) (λ _. IsSome h)) (sym left_first) r1.told in
          over _ (the_files.held old program) (the_files.held old name)
          (subst (λ f. IfSome (the_files.held old program) (λ _. IsSome (the_files.left new f))) (sym (by_first file fresh (r1.no_other file was))) at_first)
