-- What a job answers and leaves whose journal is opened: from its statics, its journal, and what is after that.
use Rattle.std.proofs.Common.{◌≡◌, ◌≢◌, ℕ, ◌-◌, ◌^◌, ◌<◌, ◌≤◌, Bool, true, false, List, [], ◌∷◌, ◌++◌, length, take, Option, Some, None, IfSome}
use Rattle.std.proofs.Common.{refl, sym, ap, ◌∙◌, subst, arith, inl, inr}
use Rattle.std.specs.Prelude.{unwrap_or, Result, Ok, Err, if◌then◌else◌}
use Rattle.sz_types.specs.Tables.{Declaration}
use Rattle.sz_io.specs.Rose.{Rose}
use Rattle.sz_io.specs.declared.files.Files as files
use Rattle.sz_disk.specs.Crashes.{Images, are_told}
use Rattle.sz_disk.specs.declared.disk.Disk as disks
use Rattle.sz_disk.specs.Crashing.{LeavesOnly}
use Rattle.sz_disk.proofs.GateForCallers.{the_image, leaves_if, leaves_both}
use Rattle.sz_mean.specs.Marked.{Marked, all_tables}
use Rattle.sz_mean.specs.Programs.{statics}
use Rattle.sz_machine.specs.Ends.{seen_fault}
use Rattle.sz_print.specs.Tables.{tables_text}
use Rattle.sz_world_rules.specs.World.{Outcome, Done, Faulted}
use Rattle.sz_world_rules.specs.Slots.{Slot}
use Rattle.sz_attempt.specs.declared.job.Job.{Job}
use Rattle.sz_records.specs.declared.ending.Ending.TheVariants.{Whole}
use Rattle.sz_workers.specs.Outcomes.{emitted, outcome_of}
use Rattle.sz_words.specs.declared.settings.RunSettings.{RunSettings}
use Rattle.sz_journal.specs.declared.job.JobBytes.{JobBytes}
use Rattle.sz_journal.specs.declared.round.RoundEntry.{RoundEntry}
use Rattle.sz_journal.specs.Rounds.{last_progress, AreRounds}
use Rattle.sz_journal.specs.Journals.{Standing, Empty, OtherJob, DamagedAt, Spelled, Spells}
use Rattle.sz_journal.specs.Journals as stand
use Rattle.sz_journal.specs.Laws.{IsOneStanding}
use Rattle.sz_journal.specs.declared.tail.Tail.{Tail}
use Rattle.sz_journal.specs.Journal.{rounds_of, IsOf, KeepsRounds}
use Rattle.sz_journal.specs.Opening.{FitsAnswer, FitsError, IsKept}
use Rattle.sz_journal.specs.declared.error.OpenError.{OpenError}
use Rattle.sz_journal.specs.declared.error.OpenError.TheVariants as errors
use Rattle.sz_resume.specs.Standing.{IsFound, StandsFor}
use Rattle.sz_resume.specs.Runs.{IsJournalOf}
use Rattle.sz_resume.specs.Stops.{AreSmall, IsLeft}
use Rattle.szl.specs.declared.status.Status.{Status}
use Rattle.szl.specs.declared.status.Status.TheVariants as status
use Rattle.szl.specs.declared.failure.Failure.{Failure}
use Rattle.szl.specs.declared.failure.Failure.TheVariants as failure
use Rattle.szl.specs.Answers.{Answer, success}
use Rattle.szl.specs.Opening.{Decides, status_of_answer}
use Rattle.szl.specs.Outcome.{written, outcome_faulted, outcome_of_shards, outcome_of_statics}
use Rattle.szl.specs.ProgramRuns.{GivesJob, IsJobOf}
use Rattle.szl.specs.Records.{Cut}
use Rattle.szl.specs.Shards.{shards_in, shard_sizes, job_of}
use Rattle.szl.specs.Resuming.{last_gate, damaged_after, unless_journal, source_of, outcome_after_statics}
use Rattle.szl.specs.ResumePromise.{IfKnown, IsRest, IsLeftOr, KeepsJob}
use Rattle.szl.specs.Promise.{IfRead}
use Rattle.szl.specs.JournalRuns.{failure_of_journal, as_memory, AnswersJob, IsAfterRounds, IsProgramOutcome, IfBegun, but_one}
use Rattle.szl.proofs.AnswerLemmas.{cut_of, fault_is_numbered, same_outcome}
use Rattle.szl.proofs.OpeningLemmas.{holds_or}
use Rattle.szl.proofs.OpenedLemmas.{opened_none}
use Rattle.szl.proofs.SaysLemmas.{says}
use Rattle.szl.proofs.AfterRoundsLemmas.{shown_of, opens_both, not_short}
use Rattle.szl.proofs.KeepLemmas.{left_now, found_doubled, left_single, stands_single, kept_left, same_rounds, found_now, left_since_opened}

-- what may be told, by what it tells
pub all_told : (told : Option (List ℕ)) (P : List ℕ → Type 0) → ((bytes : List ℕ) → told ≡ Some bytes → P bytes) → IfSome told P
all_told None P each = tt
all_told (Some bytes) P each = each bytes refl

-- something after a journal
pub record HasRest (s : RunSettings) (IfSo : (Marked → List Slot → Type 0) → Type 0) (name : JobBytes) (told journal : Option (List ℕ)) (cut : Cut)
    : Type 0 where
  pub rest : Answer
  pub behind : IsRest s IfSo name told cut journal rest

-- where no program is run, it may be anything
pub no_rest : (s : RunSettings) (IfSo : (Marked → List Slot → Type 0) → Type 0) (name : JobBytes) (told journal : Option (List ℕ)) (cut : Cut)
    → ((IsSo : Marked → List Slot → Type 0) → IfSo IsSo) → HasRest s IfSo name told journal cut
no_rest s IfSo name told journal cut none = record {
  rest = success [];
  behind = record { end = emitted [] 0; ending = Whole; output = []; is = refl; of_run = none _ };
}

module _ (s : RunSettings) (program : Marked) (name : JobBytes) (told journal : Option (List ℕ)) where
  -- the answer of the run
  run_rest : (cut : Cut) (slots : List Slot) → statics program s.budget ≡ Done slots → HasRest s (IfBegun s program) name told journal cut
  run_rest cut slots begun =
      let job = job_of program slots s in
      let end = outcome_of job (shards_in s.shard cut.records) in
      let write = written program s.save (length cut.records) s.budget in
      record {
        rest = outcome_of_statics program s cut (Done slots);
        behind = record {
          end = end;
          ending = cut.ending;
          output = shown_of write end;
          is = opens_both write cut.ending end
              (λ k f e. fault_is_numbered job 0 0 1 cut.records (shard_sizes s.shard cut.records) (omega arith) k f e);
          of_run = λ others begun_so bytes held rounds t j found.
              let same : slots ≡ others = same_slots slots others (sym begun ∙ begun_so) in
              ap (λ sl. outcome_of_statics program s cut (Done sl)) same;
        };
      }
    where
      same_slots : (a b : List Slot) → ◌≡◌ {A = Outcome (List Slot)} (Done a) (Done b) → a ≡ b
      same_slots a b e = cc

  pub some_rest : (cut : Cut) → HasRest s (IfBegun s program) name told journal cut
  some_rest cut = by (statics program s.budget) refl
    where
      by : (o : Outcome (List Slot)) → statics program s.budget ≡ o → HasRest s (IfBegun s program) name told journal cut
      by (Done slots) e = run_rest cut slots e
      by (Faulted f) e = no_rest s (IfBegun s program) name told journal cut (λ IsSo slots begun. let no = sym e ∙ begun in absurd (cc))

module _ {F : Type 0} (the_files : files.Ghosts F) (s : RunSettings) (program : Marked) (name : JobBytes) (old : F) (journal : Option (List ℕ)) where
  abbrev told_at : Option (List ℕ)
  told_at = the_files.held old s.input

  abbrev OfProgram : F → Result (List ℕ) Failure → Type 0
  OfProgram new answer = AnswersJob the_files (IsProgramOutcome s program name told_at journal) (s.input ∷ []) but_one old new answer

  -- an answer before the input is opened, for some standing of the journal
  before_input : (f : Failure) (standing : Standing)
      → IfKnown (status_of_answer {A = List ℕ} (Err f)) (IfBegun s program (λ program slots. IfSome journal (λ held. stand.Stands name (all_tables program) held standing)))
      → ((size : ℕ) (rest : Answer) → Decides (as_memory {T = List ℕ} (Err f)) (outcome_after_statics (unless_journal name standing size) rest (statics program s.budget))
      (Rose (the_files.faults old) (the_files.faults old)))
      → ((most : ℕ → ℕ) (size : ℕ) (rest : Answer) → IfRead (status_of_answer (as_memory {T = List ℕ} (Err f)))
      ((outcome_after_statics (unless_journal name standing size) rest (statics program s.budget)).opens ≡ 1))
      → status_of_answer (as_memory {T = List ℕ} (Err f)) ≢ status.ReadFailed → OfProgram old (Err f)
  before_input f standing stands decides one other =
      let input = unwrap_or told_at [] in
      let c = cut_of s.frame input in
      let r = some_rest s program name told_at journal c.cut in
      record {
        outcome = outcome_after_statics (unless_journal name standing (length input)) r.rest (statics program s.budget);
        of = record {
          input = input;
          cut = c.cut;
          is_cut = c.is_cut;
          of_input = holds_or told_at [];
          standing = standing;
          stands = stands;
          rest = r.rest;
          behind = r.behind;
          is = refl;
        };
        decides = decides (length input) r.rest;
        opened = opened_none the_files old (s.input ∷ []) _ (status_of_answer (as_memory {T = List ℕ} (Err f))) other
            (λ read memory. ap (λ n. take (n - 1) (s.input ∷ [])) (sym (one but_one (length input) r.rest read memory)));
      }

  -- memory ran out, or the disk failed
  pub no_memory_before : OfProgram old (Err failure.NoMemory)
  no_memory_before =
      before_input failure.NoMemory Empty (λ read memory. absurd (memory refl)) (λ size rest. tt) (λ most size rest read memory. absurd (memory refl)) (λ e. cc)

  disk_before : OfProgram old (Err failure.DiskFailed)
  disk_before =
      before_input failure.DiskFailed Empty (λ read memory. absurd (memory refl)) (λ size rest. tt) (λ most size rest read memory. absurd (memory refl)) (λ e. cc)

  -- a static faults
  pub no_job : (f : Failure) → GivesJob program s (Err f) → OfProgram old (Err f)
  no_job (failure.Faulted n fault) h =
      before_input (failure.Faulted n fault) Empty (λ read memory slots begun. let no = sym h.1 ∙ begun in absurd (cc))
      (λ size rest. says (ap (outcome_after_statics (unless_journal name Empty size) rest) h.1 ∙ ap (λ k. outcome_faulted k (seen_fault fault)) (sym h.0)))
      (λ most size rest read memory. ap (λ (o : Answer). o.opens) (ap (outcome_after_statics (unless_journal name Empty size) rest) h.1))
      (λ e. cc)
  no_job failure.NoMemory h = no_memory_before
  no_job _ h = absurd h

  -- the journal isn't opened
  pub no_journal : (slots : List Slot) → statics program s.budget ≡ Done slots → (e : OpenError)
      → ((held : List ℕ) → journal ≡ Some held → FitsError name (all_tables program) held e) → OfProgram old (Err (failure_of_journal e))
  no_journal slots begun errors.OtherJob causes =
      before_input failure.OtherJob OtherJob (λ read memory others so. all_told journal _ causes)
      (λ size rest. says (ap (outcome_after_statics (unless_journal name OtherJob size) rest) begun))
      (λ most size rest read memory. ap (λ (o : Answer). o.opens) (ap (outcome_after_statics (unless_journal name OtherJob size) rest) begun))
      (λ e. cc)
  no_journal slots begun (errors.Damaged gate) causes =
      before_input (failure.JournalDamaged gate) (DamagedAt gate) (λ read memory others so. all_told journal _ causes)
      (λ size rest. says (ap (outcome_after_statics (unless_journal name (DamagedAt gate) size) rest) begun))
      (λ most size rest read memory. ap (λ (o : Answer). o.opens) (ap (outcome_after_statics (unless_journal name (DamagedAt gate) size) rest) begun))
      (λ e. cc)
  no_journal slots begun errors.Failed causes = disk_before
  no_journal slots begun errors.NoMemory causes = no_memory_before

-- what an opened journal is, and that it makes of an answer what its rounds do
record IsOpened (name : JobBytes) (decls : List Declaration) (journal : Option (List ℕ)) (rounds : List RoundEntry) : Type 0 where
  standing : Standing
  stands : IfSome journal (λ held. stand.Stands name decls held standing)
  same : (size : ℕ) (rest : Answer) → unless_journal name (Spelled rounds) size rest ≡ unless_journal name standing size rest

is_opened : (name : JobBytes) (decls : List Declaration) (journal : Option (List ℕ)) (j : Tail)
    → ((held : List ℕ) → journal ≡ Some held → FitsAnswer name decls held (Ok j)) → IsOpened name decls journal (rounds_of j)
is_opened name decls None j fits = record { standing = Spelled (rounds_of j); stands = tt; same = λ size rest. refl }
is_opened name decls (Some held) j fits = by (fits held refl)
  where
    by : FitsAnswer name decls held (Ok j) → IsOpened name decls (Some held) (rounds_of j)
    by (inl spells) = record { standing = Spelled (rounds_of j); stands = spells; same = λ size rest. refl }
    by (inr empty) = record {
      standing = Empty;
      stands = empty.0;
      same = λ size rest.
          ap (λ rs. unless_journal name (Spelled rs) size rest) empty.1
          ∙ ap (λ b. if b then damaged_after (last_gate name []) 2 else rest) (not_short size 0 (omega arith));
    }

module _ (law : IsOneStanding) (s : RunSettings) (low : 1 ≤ s.shard) (no_save : s.save ≡ false) (program : Marked) (slots : List Slot)
    (begun : statics program s.budget ≡ Done slots) (name : JobBytes) (few : name.skip < 2 ^ 32) (twice : List ℕ) (j : Tail) where
  abbrev plain : Job
  plain = job_of program slots s

  abbrev run_job : Job
  run_job = record (job_of program slots s) { twice = twice }

  same_slots : (others : List Slot) → statics program s.budget ≡ Done others → slots ≡ others
  same_slots others so = by (sym begun ∙ so)
    where
      by : ◌≡◌ {A = Outcome (List Slot)} (Done slots) (Done others) → slots ≡ others
      by e = cc

  -- the job is answered after its rounds
  pub after_journal : {F : Type 0} (the_files : files.Ghosts F) (old new : F) (journal mid : Option (List ℕ)) (may_leave : Images)
      (answer : Result (List ℕ) Failure)
      → ((held : List ℕ) → journal ≡ Some held → FitsAnswer name (all_tables program) held (Ok j))
      → ((held : List ℕ) → journal ≡ Some held → KeepsRounds mid may_leave name (all_tables program) (rounds_of j))
      → AnswersJob the_files (λ st. IsAfterRounds s run_job name (rounds_of j) (the_files.held old s.input) mid) (s.input ∷ []) but_one old new answer
      → AnswersJob the_files (IsProgramOutcome s program name (the_files.held old s.input) journal) (s.input ∷ []) but_one old new answer
  after_journal the_files old new journal mid may_leave answer fits keeps a =
      let b = a.of in
      let o = is_opened name (all_tables program) journal j fits in
      record {
        outcome = a.outcome;
        of = record {
          input = b.input;
          cut = b.cut;
          is_cut = b.is_cut;
          of_input = b.of_input;
          standing = o.standing;
          stands = λ read memory others so. o.stands;
          rest = b.rest;
          behind = record {
            end = b.end;
            ending = b.ending;
            output = b.output;
            is = b.is;
            of_run = λ others so bytes held before t jo found.
                let same = same_slots others so in
                let plain_found = subst (λ sl. IsFound name (job_of program sl s) (source_of s bytes) held before) (sym same) found in
                let k = keeps held jo in
                let now = found_now law s plain name few low bytes held j mid may_leave k (fits held jo) before plain_found in
                let run = b.of_run bytes k.held t k.rests.read (found_doubled plain twice (source_of s bytes) name k.held (rounds_of j) now) in
                run
                ∙ ap (outcome_of_shards (tables_text (all_tables program)) b.cut.ending) (same_outcome plain twice 0 (shards_in s.shard b.cut.records))
                ∙ ap (λ (save : Bool). outcome_of_shards (written program save (length b.cut.records) s.budget) b.cut.ending
                (outcome_of plain (shards_in s.shard b.cut.records))) (sym no_save)
                ∙ ap (λ sl. outcome_of_statics program s b.cut (Done sl)) same;
          };
          is = b.outcome_is ∙ o.same (length b.input) b.rest
              ∙ sym (ap (outcome_after_statics (unless_journal name o.standing (length b.input)) b.rest) begun);
        };
        decides = a.decides;
        opened = a.opened;
      }

  -- what it leaves of the journal, as that of the job without doubled shards
  pub keeps_journal : {K : Type 0} (the_disk : disks.Ghosts K) (input held : List ℕ) (before : List RoundEntry) (st : Status) (disk mid new : K)
      → IsFound name plain (source_of s input) held before → FitsAnswer name (all_tables program) held (Ok j)
      → (k : KeepsRounds (the_disk.bytes mid) (the_disk.may_leave mid) name (all_tables program) (rounds_of j))
      → are_told (the_disk.may_leave mid) ≡ are_told (the_disk.may_leave disk)
      → (are_told (the_disk.may_leave disk) ≡ true
      → LeavesOnly the_disk.time the_disk.left_since disk mid (IsKept name (all_tables program) (the_disk.may_leave disk) held))
      → KeepsJob the_disk name run_job (source_of s input) k.held (rounds_of j) st mid new
      → KeepsJob the_disk name plain (source_of s input) held before st disk new
  keeps_journal the_disk input held before st disk mid new found fits k told opened later = record {
    added = later.added;
    small = subst (λ rs. AreSmall (last_progress rs) later.added) same later.small;
    stopped = λ is.
        leaves_both the_disk.time the_disk.left_since disk mid new Left
        (leaves_if the_disk.time the_disk.left_since disk mid (IsKept name (all_tables program) (the_disk.may_leave disk) held) Left
        (kept_left law s plain name few low input held before found (the_disk.may_leave disk) later.added) (opened is))
        (leaves_if the_disk.time the_disk.left_since mid new
        (IsLeftOr (the_disk.may_leave mid) name run_job (source_of s input) k.held (rounds_of j) later.added) Left
        (λ image left. inr (left_since_opened law s plain name few low input held j (the_disk.bytes mid) (the_disk.may_leave mid) k fits before found
        later.added image (left_single plain twice (source_of s input) name k.held image (rounds_of j) later.added (now_left (told ∙ is) image left))))
        (later.stopped (told ∙ is)));
    ended = λ is.
        let h = later.ended is in
        record {
          held = h.held;
          rests = h.rests;
          stands = subst (λ rs. StandsFor name plain (source_of s input) h.held (rs ++ later.added) []) same
              (stands_single plain twice (source_of s input) name h.held (rounds_of j ++ later.added) [] h.stands);
        };
  }
    where
      same : rounds_of j ≡ before
      same = same_rounds law s plain name few low input held j (the_disk.bytes mid) (the_disk.may_leave mid) k fits before found

      Left : List ℕ → Type 0
      Left image = IsLeftOr (the_disk.may_leave disk) name plain (source_of s input) held before later.added image

      -- once the journal is open, a crash leaves what a read gives
      now_left : are_told (the_disk.may_leave mid) ≡ true → (image : List ℕ)
          → IsLeftOr (the_disk.may_leave mid) name run_job (source_of s input) k.held (rounds_of j) later.added image
          → IsLeft name run_job (source_of s input) k.held (rounds_of j) later.added image
      now_left is image (inr left) = left
      now_left is image (inl left) =
          left_now name run_job (source_of s input) k.held (rounds_of j)
          (found_doubled plain twice (source_of s input) name k.held (rounds_of j)
          (found_now law s plain name few low input held j (the_disk.bytes mid) (the_disk.may_leave mid) k fits before found))
          later.added image (the_image (the_disk.may_leave mid) k.held image is k.rests.only left)

  -- the same for the job as it is run
  pub job_keeps : {K : Type 0} (the_disk : disks.Ghosts K) (job : Job) (others : List Slot) → statics program s.budget ≡ Done others
      → IsJobOf program others s job → (input held : List ℕ) (before : List RoundEntry) (st : Status) (disk mid new : K)
      → IsFound name plain (source_of s input) held before → FitsAnswer name (all_tables program) held (Ok j)
      → (k : KeepsRounds (the_disk.bytes mid) (the_disk.may_leave mid) name (all_tables program) (rounds_of j))
      → are_told (the_disk.may_leave mid) ≡ are_told (the_disk.may_leave disk)
      → (are_told (the_disk.may_leave disk) ≡ true
      → LeavesOnly the_disk.time the_disk.left_since disk mid (IsKept name (all_tables program) (the_disk.may_leave disk) held))
      → job.twice ≡ twice
      → (IsFound name job (source_of s input) k.held (rounds_of j) → KeepsJob the_disk name job (source_of s input) k.held (rounds_of j) st mid new)
      → KeepsJob the_disk name plain (source_of s input) held before st disk new
  job_keeps the_disk job others so is input held before st disk mid new found fits k told opened twice_is later =
      let now = found_now law s plain name few low input held j (the_disk.bytes mid) (the_disk.may_leave mid) k fits before found in
      let of_job : job ≡ run_job = is.same ∙ ap (λ sl. record (job_of program sl s) { twice = job.twice }) (sym (same_slots others so))
      ∙ ap (λ t. record (job_of program slots s) { twice = t }) twice_is in
      keeps_journal the_disk input held before st disk mid new found fits k told opened
      (subst (λ jb. KeepsJob the_disk name jb (source_of s input) k.held (rounds_of j) st mid new) of_job
      (later (subst (λ jb. IsFound name jb (source_of s input) k.held (rounds_of j)) (sym of_job)
      (found_doubled plain twice (source_of s input) name k.held (rounds_of j) now))))

-- the journal wasn't opened
pub keeps_unopened : {K : Type 0} → IsOneStanding → (s : RunSettings) → 1 ≤ s.shard → (program : Marked) (slots : List Slot) (name : JobBytes)
    → name.skip < 2 ^ 32 → (the_disk : disks.Ghosts K) (input held : List ℕ) (before : List RoundEntry) (st : Status) → st ≢ status.Done
    → (disk mid : K) → IsFound name (job_of program slots s) (source_of s input) held before
    → (are_told (the_disk.may_leave disk) ≡ true
    → LeavesOnly the_disk.time the_disk.left_since disk mid (IsKept name (all_tables program) (the_disk.may_leave disk) held))
    → KeepsJob the_disk name (job_of program slots s) (source_of s input) held before st disk mid
keeps_unopened law s low program slots name few the_disk input held before st unfinished disk mid found leaves = record {
  added = [];
  small = tt;
  stopped = λ is.
      leaves_if the_disk.time the_disk.left_since disk mid (IsKept name (all_tables program) (the_disk.may_leave disk) held)
      (IsLeftOr (the_disk.may_leave disk) name (job_of program slots s) (source_of s input) held before [])
      (kept_left law s (job_of program slots s) name few low input held before found (the_disk.may_leave disk) []) (leaves is);
  ended = λ is. absurd (unfinished is);
}

-- an opened journal is one of the job
pub is_journal : (name : JobBytes) (job : Job) (journal : Tail) (old now : Option (List ℕ)) (may_leave : Images) → IsOf name journal
    → name.budget ≡ job.budget → name.skip ≡ job.skip → (old ≡ None → now ≡ None)
    → ((held : List ℕ) → old ≡ Some held → KeepsRounds now may_leave name (all_tables job.compiled) (rounds_of journal))
    → AreRounds name (all_tables job.compiled) (rounds_of journal) → IsJournalOf name job journal now
is_journal name job journal old now may_leave is_of budget skip untold keeps are = record {
  is_of = is_of;
  budget = budget;
  skip = skip;
  spells = by old refl;
  are = are;
}
  where
    by : (o : Option (List ℕ)) → old ≡ o → IfSome now (λ held. Spells name (all_tables job.compiled) held (rounds_of journal))
    by None e = subst (λ h. IfSome h (λ held. Spells name (all_tables job.compiled) held (rounds_of journal))) (sym (untold e)) tt
    by (Some held) e =
        let k = keeps held e in
        subst (λ h. IfSome h (λ held. Spells name (all_tables job.compiled) held (rounds_of journal))) (sym k.rests.read) k.spells
