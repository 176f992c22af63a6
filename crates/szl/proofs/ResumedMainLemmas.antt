-- The promise of the top call for a job that is resumed, from the answer, what was printed of it, and the line.
use Rattle.std.proofs.Common.{◌≡◌, ◌≢◌, ◌⊎◌, inl, inr, Bool, true, false, ℕ, List, [], ◌∷◌, ◌++◌, Option, Some, None, refl, sym, ap, ◌∙◌, subst, arith}
use Rattle.std.specs.Prelude.{Result, Ok, Err, option_to_list}
use Rattle.std.proofs.KnownBytes.{Appends-nil}
use Rattle.sz_io.specs.Rose.{Rose}
use Rattle.sz_io.specs.declared.files.Files as files
use Rattle.sz_io.specs.declared.sink.Sink as sink
use Rattle.sz_disk.specs.declared.disk.Disk as disks
use Rattle.sz_words.specs.declared.settings.RunSettings.{RunSettings}
use Rattle.sz_words.specs.declared.settings.Settings.{Settings}
use Rattle.sz_words.specs.declared.settings.Settings.TheVariants.{Resume}
use Rattle.szl.specs.declared.status.Status.{Status}
use Rattle.szl.specs.declared.status.Status.TheVariants as status
use Rattle.szl.specs.declared.failure.Failure.{Failure}
use Rattle.szl.specs.declared.failure.Failure.TheVariants as failure
use Rattle.szl.specs.Answers.{Answer}
use Rattle.szl.specs.Failing.{status_of, line_of_failure}
use Rattle.szl.specs.Opening.{Decides, Answers, status_of_answer}
use Rattle.szl.specs.Printing.{Prints, PrintsNothing}
use Rattle.szl.specs.Judging.{failure_of_words}
use Rattle.sz_words.specs.declared.error.WordsError.{WordsError}
use Rattle.sz_words.specs.declared.error.WordsError.TheVariants as words_errors
use Rattle.sz_words.specs.Settings.{settings_in}
use Rattle.szl.proofs.AfterLemmas.{words_fail}
use Rattle.szl.proofs.ResumeLemmas.{nothing_answered}
use Rattle.szl.specs.Promise.{IsStatusOf, GainsOutput, IsLeftAlone, OpensFiles, line_of}
use Rattle.sz_io.specs.Calls.{GainsLine}
use Rattle.szl.specs.ResumePromise.{IfJob, IfKnown, IsJobOutcome, IsStatusOnDisk, MeansJob, CompletesJob, KeepsJob, KeepsJournal, IfRun}
use Rattle.szl.specs.ResumePromise.{free_status, job_asked, line_on_disk, names_on_disk}
use Rattle.szl.specs.JournalRuns.{as_memory, AnswersJob}
use Rattle.szl.specs.Judgement.{Reading, refused, spells}
use Rattle.szl.specs.Resuming.{kept_job, source_of}
use Rattle.szl.specs.Shards.{job_of}
use Rattle.sz_protofile_types.specs.Readings.{FileReading, bad_file, with_types}
use Rattle.sz_journal.specs.declared.round.RoundEntry.{RoundEntry}
use Rattle.sz_resume.specs.Standing.{IsFound}
use Rattle.szl.proofs.OpenedLemmas.{opened_no_memory}
use Rattle.szl.proofs.MainLemmas.{Ended, ended, before, unwritten, no_room, fits_done, fits_failure, line_is, fits_no_memory, alone_printed}
use Rattle.szl.proofs.MainLemmas.{alone_failure, alone_no_memory, opened_failure}

module _ {F K : Type 0} (the_files : files.Ghosts F) (the_disk : disks.Ghosts K) (s : RunSettings) (old : F) (disk : K) where
  -- what is known under one status is known under another
  pub outcome_under : (first later : Status) (outcome : Answer) → ((X : Type 0) → IfKnown first X → IfKnown later X)
      → IsJobOutcome the_files the_disk s first old disk outcome → IsJobOutcome the_files the_disk s later old disk outcome
  outcome_under first later outcome known o =
      let b = o.by_journal in
      record {
        proto = o.proto;
        file = o.file;
        file_read = o.file_read;
        of_file = o.of_file;
        text = o.text;
        reading = o.reading;
        read = o.read;
        of_program = o.of_program;
        by_journal = record {
          input = b.input;
          cut = b.cut;
          is_cut = b.is_cut;
          of_input = b.of_input;
          standing = b.standing;
          stands = known _ b.stands;
          rest = b.rest;
          behind = b.behind;
          is = b.is;
        };
      }

  outcome_no_memory : (first : Status) (outcome : Answer) → IsJobOutcome the_files the_disk s first old disk outcome
      → IsJobOutcome the_files the_disk s status.NoMemory old disk outcome
  outcome_no_memory first outcome o = outcome_under first status.NoMemory outcome (λ X known read memory. absurd (memory refl)) o

  module _ {O E : Type 0} (the_out : sink.Ghosts O) (the_err : sink.Ghosts E) (new : F) (out new_out : O) (err : E) where
    abbrev job_names : List (List ℕ)
    job_names = option_to_list s.proto ++ s.program ∷ s.input ∷ []

    abbrev AnsweredJob : Result (List ℕ) Failure → Type 0
    AnsweredJob made = AnswersJob the_files (λ st outcome. IsJobOutcome the_files the_disk s st old disk outcome) job_names (λ n. n) old new made

    -- all was printed, and nothing is told
    pub job_done : (made : Result (List ℕ) Failure) (done : Unit {0}) → AnsweredJob made
        → Prints {T = Unit {0}} (the_out.taken out) (the_out.taken new_out) made (Ok done) → PrintsNothing made out new_out
        → MeansJob the_files the_out the_err the_disk s status.Done old new out new_out err err disk
    job_done (Err f) done a printed nothing = absurd printed
    job_done (Ok output) done a printed nothing =
        let fit = fits_done a.outcome output (the_out.taken out) (the_out.taken new_out) a.decides printed in
        let no_line : [] ≡ a.outcome.line = sym (ap (λ (x : Answer). x.line) a.decides) in
        record {
          outcome = a.outcome;
          of = a.of;
          answers = fit.status_is;
          output = fit.output;
          left_alone = alone_printed a.outcome output out new_out a.decides nothing;
          line = subst (GainsLine the_err err err) no_line (record { count = 0; appends = Appends-nil (the_err.taken err); whole = inl (omega arith) });
          opened = a.opened;
        }

    -- the status of a failure that isn't the disk's is that of an answer without a disk
    same_answers : (outcome : Answer) (f : Failure) → f ≢ failure.DiskFailed → IsStatusOf outcome (status_of f) → IsStatusOnDisk outcome (status_of f)
    same_answers outcome failure.DiskFailed other is = tt
    same_answers outcome _ other is = is

    same_line : (outcome : Answer) (f : Failure) → f ≢ failure.DiskFailed → line_of outcome (status_of f) ≡ line_on_disk outcome (status_of f)
    same_line outcome failure.DiskFailed other = absurd (other refl)
    same_line outcome _ other = refl

    same_free : (f : Failure) → f ≢ failure.DiskFailed → status_of f ≡ free_status (status_of f)
    same_free failure.DiskFailed other = absurd (other refl)
    same_free _ other = refl

    -- what was made is a text or a failure that isn't the disk's; or the disk failed
    data Made : Result (List ℕ) Failure → Type 0 where
      disk_failed : Made (Err failure.DiskFailed)
      other_made : (made : Result (List ℕ) Failure) → as_memory made ≡ made → (made ≡ Err failure.DiskFailed → ⊥) → Made made

    made_so : (made : Result (List ℕ) Failure) → Made made
    made_so (Ok output) = other_made (Ok output) refl (λ e. cc)
    made_so (Err failure.DiskFailed) = disk_failed
    made_so (Err cause) = other_made (Err cause) refl (λ e. cc)

    -- what printing ended in isn't the disk's failure, where what was made isn't
    not_disk : (made : Result (List ℕ) Failure) (f : Failure) → (made ≡ Err failure.DiskFailed → ⊥)
        → Ended (the_out.taken out) (the_out.taken new_out) made f → f ≢ failure.DiskFailed
    not_disk _ _ other (before f none) = λ e. other (ap Err e)
    not_disk _ _ other (unwritten output some part) = λ e. cc
    not_disk _ _ other (no_room output part) = λ e. cc

    -- what is known of the outcome is known under the status of the failure
    ended_known : (made : Result (List ℕ) Failure) (f : Failure) (X : Type 0) → Ended (the_out.taken out) (the_out.taken new_out) made f
        → IfKnown (status_of_answer made) X → IfKnown (status_of f) X
    ended_known _ _ X (before f none) known = known
    ended_known _ _ X (unwritten output some part) known = λ read memory. known (λ e. cc) (λ e. cc)
    ended_known _ _ X (no_room output part) known = λ read memory. absurd (memory refl)

    -- want of memory is told
    means_no_memory : (new_err : E) (made : Result (List ℕ) Failure) (a : AnsweredJob made)
        → GainsOutput status.NoMemory (the_out.taken out) (the_out.taken new_out) a.outcome.output
        → IsLeftAlone status.NoMemory a.outcome.output out new_out
        → GainsLine the_err err new_err (line_of_failure failure.NoMemory)
        → MeansJob the_files the_out the_err the_disk s status.NoMemory old new out new_out err new_err disk
    means_no_memory new_err made a output alone gained = record {
      outcome = a.outcome;
      of = outcome_no_memory (status_of_answer made) a.outcome a.of;
      answers = tt;
      output = output;
      left_alone = alone;
      line = gained;
      opened = opened_no_memory the_files old new job_names a.outcome.opens (status_of_answer (as_memory made)) a.opened;
    }

    -- a failure, and its line is told, or that of want of memory
    pub job_failed : (new_err : E) (f told : Failure) (made : Result (List ℕ) Failure) → AnsweredJob made
        → Prints {T = Unit {0}} (the_out.taken out) (the_out.taken new_out) made (Err f) → PrintsNothing made out new_out
        → (told ≡ f) ⊎ (told ≡ failure.NoMemory) → GainsLine the_err err new_err (line_of_failure told)
        → MeansJob the_files the_out the_err the_disk s (status_of told) old new out new_out err new_err disk
    job_failed new_err f told made a printed nothing told_is gained = by made (made_so made) a printed nothing told_is
      where
        by : (made : Result (List ℕ) Failure) → Made made → AnsweredJob made
            → Prints {T = Unit {0}} (the_out.taken out) (the_out.taken new_out) made (Err f) → PrintsNothing made out new_out
            → (told ≡ f) ⊎ (told ≡ failure.NoMemory) → MeansJob the_files the_out the_err the_disk s (status_of told) old new out new_out err new_err disk
        by _ disk_failed a printed nothing (inl is) =
            let is_disk : told ≡ failure.DiskFailed = is ∙ printed.0 in
            subst (λ t. MeansJob the_files the_out the_err the_disk s (status_of t) old new out new_out err new_err disk) (sym is_disk) (record {
              outcome = a.outcome;
              of = a.of;
              answers = tt;
              output = printed.1;
              left_alone = nothing;
              line = subst (GainsLine the_err err new_err) (ap line_of_failure is_disk) gained;
              opened = a.opened;
            })
        by _ disk_failed a printed nothing (inr is) =
            subst (λ t. MeansJob the_files the_out the_err the_disk s (status_of t) old new out new_out err new_err disk) (sym is)
            (means_no_memory new_err (Err failure.DiskFailed) a (record { count = 0; appends = printed.1 }) (λ none. nothing)
            (subst (GainsLine the_err err new_err) (ap line_of_failure is) gained))
        by _ (other_made made same other) a printed nothing (inl is) =
            let end = ended f made (the_out.taken out) (the_out.taken new_out) printed in
            let decides = subst (λ m. Decides m a.outcome (Rose (the_files.faults old) (the_files.faults new))) same a.decides in
            let fit = fits_failure a.outcome f made _ (the_out.taken out) (the_out.taken new_out) decides end in
            let not = not_disk made f other end in
            let line = ap line_of_failure is ∙ line_is a.outcome f made _ (the_out.taken out) (the_out.taken new_out) decides end ∙ same_line a.outcome f not in
            subst (λ t. MeansJob the_files the_out the_err the_disk s (status_of t) old new out new_out err new_err disk) (sym is) (record {
              outcome = a.outcome;
              of = outcome_under (status_of_answer made) (status_of f) a.outcome (λ X known. ended_known made f X end known) a.of;
              answers = same_answers a.outcome f not fit.status_is;
              output = fit.output;
              left_alone = alone_failure a.outcome f made _ (the_out.taken out) (the_out.taken new_out) out new_out decides end nothing;
              line = subst (GainsLine the_err err new_err) line gained;
              opened = subst (OpensFiles the_files old new job_names a.outcome.opens) (same_free f not)
                  (opened_failure the_files old new job_names a.outcome.opens f made (the_out.taken out) (the_out.taken new_out) end
                  (subst (λ m. OpensFiles the_files old new job_names a.outcome.opens (status_of_answer m)) same a.opened));
            })
        by _ (other_made made same other) a printed nothing (inr is) =
            let end = ended f made (the_out.taken out) (the_out.taken new_out) printed in
            let decides = subst (λ m. Decides m a.outcome (Rose (the_files.faults old) (the_files.faults new))) same a.decides in
            let fit = fits_no_memory a.outcome f made _ (the_out.taken out) (the_out.taken new_out) decides end in
            subst (λ t. MeansJob the_files the_out the_err the_disk s (status_of t) old new out new_out err new_err disk) (sym is)
            (means_no_memory new_err made a fit.output (alone_no_memory a.outcome made _ out new_out decides nothing)
            (subst (GainsLine the_err err new_err) (ap line_of_failure is) gained))

-- ---- the journal

-- under a later status nothing more is owed
pub keeps_under : {F K : Type 0} (the_files : files.Ghosts F) (the_disk : disks.Ghosts K) (s : RunSettings) (first later : Status) (old : F) (disk new : K)
    → (later ≡ status.Done → first ≡ status.Done) → KeepsJournal the_files the_disk s first old disk new
    → KeepsJournal the_files the_disk s later old disk new
keeps_under the_files the_disk s first later old disk new done k = record {
  entries = k.entries;
  of_job = λ text proto file reading t p file_read read. (
      let d = k.of_job text proto file reading t p file_read read in
      record {
        untouched = d.untouched;
        entries = d.entries;
        found = λ input held i rests. by text proto input held file reading (d.found input held i rests);
      });
}
  where
    by : (text proto input held : List ℕ) (file : FileReading) (reading : Reading)
        → IfRun s file reading (λ program slots. (before : List RoundEntry)
        → IsFound (kept_job s text proto) (job_of program slots s) (source_of s input) held before
        → KeepsJob the_disk (kept_job s text proto) (job_of program slots s) (source_of s input) held before first disk new)
        → IfRun s file reading (λ program slots. (before : List RoundEntry)
        → IsFound (kept_job s text proto) (job_of program slots s) (source_of s input) held before
        → KeepsJob the_disk (kept_job s text proto) (job_of program slots s) (source_of s input) held before later disk new)
    by text proto input held (bad_file f) reading h = tt
    by text proto input held (with_types types) (refused r) h = tt
    by text proto input held (with_types types) (spells ss) h = λ program slots is begun before found.
        let kept = h program slots is begun before found in
        record { added = kept.added; small = kept.small; stopped = kept.stopped; ended = λ e. kept.ended (done e) }

-- ---- where a job is resumed, and where none is

-- one follows from another in both cases
pub each_job : (job : Option RunSettings) (IsSo IsToo : RunSettings → Type 0) (other too : Type 0) → ((s : RunSettings) → IsSo s → IsToo s)
    → (other → too) → IfJob job IsSo other → IfJob job IsToo too
each_job (Some s) IsSo IsToo other too f h o = f s o
each_job None IsSo IsToo other too f h o = h o

-- what is so in both is so
pub by_any : (job : Option RunSettings) (P : Type 0) → IfJob job (λ s. P) P → P
by_any (Some s) P h = h
by_any None P h = h

-- and what is so of each
pub in_both : (job : Option RunSettings) (IsSo : RunSettings → Type 0) (other : Type 0) → ((s : RunSettings) → IsSo s) → other → IfJob job IsSo other
in_both (Some s) IsSo other each o = each s
in_both None IsSo other each o = o

-- without a disk no job is resumed
pub no_job : (asked : Option Settings) → job_asked false asked ≡ None
no_job (Some (Resume s)) = refl
no_job _ = refl

pub without_disk : (asked : Option Settings) (IsSo : RunSettings → Type 0) (other : Type 0) → IfJob (job_asked false asked) IsSo other → other
without_disk asked IsSo other h = subst (λ job. IfJob job IsSo other) (no_job asked) h

-- with one, the job of the settings is
pub job_is : (has_disk : Bool) (asked : Option Settings) (settings : Settings) (s : RunSettings) → has_disk ≡ true → asked ≡ Some settings
    → settings ≡ Resume s → job_asked has_disk asked ≡ Some s
job_is has_disk asked settings s there is resumes = ap (λ d. job_asked d asked) there ∙ ap (job_asked true) (is ∙ ap some resumes)
  where
    some : Settings → Option Settings
    some settings = Some settings

module _ {F K : Type 0} (the_files : files.Ghosts F) (the_disk : disks.Ghosts K) (old new : F) (disk : K) where
  -- what is answered, of which this is the job that is resumed, if one is
  abbrev pub AnswersAsked : Option RunSettings → Option Settings → Result (List ℕ) Failure → Type 0
  AnswersAsked job asked made =
      IfJob job (λ s. AnswersJob the_files (λ st outcome. IsJobOutcome the_files the_disk s st old disk outcome) (names_on_disk (Some (Resume s))) (λ n. n)
      old new made) (Answers the_files asked old new made)

  -- a read failed
  pub read_rose : (job : Option RunSettings) (asked : Option Settings) → AnswersAsked job asked (Err failure.ReadFailed)
      → Rose (the_files.faults old) (the_files.faults new)
  read_rose job asked a = by_any job _ (each_job job _ _ _ _ (λ s a. a.decides.0) (λ a. a.decides.0) a)

  -- no answer is that writing failed, and none of another command that the disk did
  pub not_written : (job : Option RunSettings) (asked : Option Settings) → AnswersAsked job asked (Err failure.WriteFailed) → ⊥
  not_written job asked a = by_any job _ (each_job job _ _ _ _ (λ s a. a.decides) (λ a. a.decides) a)

-- words without settings
pub by_words_fail : {F K : Type 0} (the_files : files.Ghosts F) (the_disk : disks.Ghosts K) (old : F) (disk : K) (words : List (List ℕ))
    (has_disk : Bool) (e : WordsError) → (e ≡ words_errors.Usage → settings_in words ≡ None)
    → AnswersAsked the_files the_disk old old disk (job_asked has_disk (settings_in words)) (settings_in words) (Err (failure_of_words e))
by_words_fail the_files the_disk old disk words has_disk words_errors.Usage none =
    subst (λ job. AnswersAsked the_files the_disk old old disk job (settings_in words) (Err failure.Usage)) (sym (ap (job_asked has_disk) (none refl)))
    (words_fail the_files old words words_errors.Usage none)
by_words_fail the_files the_disk old disk words has_disk words_errors.NoMemory none =
    in_both (job_asked has_disk (settings_in words)) _ _ (λ s. nothing_answered the_files the_disk s old disk)
    (words_fail the_files old words words_errors.NoMemory none)

-- ---- why a status is told

-- all was printed of an output
pub printed_done : (made : Result (List ℕ) Failure) (done : Unit {0}) (old new : Option (List ℕ)) → Prints {T = Unit {0}} old new made (Ok done)
    → status_of_answer made ≡ status.Done
printed_done (Ok output) done old new printed = refl
printed_done (Err f) done old new printed = absurd printed

-- a failure that isn't one of writing or of memory was there before
pub failed_before : (made : Result (List ℕ) Failure) (f : Failure) (old new : Option (List ℕ)) → Prints {T = Unit {0}} old new made (Err f)
    → f ≢ failure.WriteFailed → f ≢ failure.NoMemory → made ≡ Err f
failed_before made f old new printed written room = by made f (ended f made old new printed) written room
  where
    by : (made : Result (List ℕ) Failure) (f : Failure) → Ended old new made f → f ≢ failure.WriteFailed → f ≢ failure.NoMemory → made ≡ Err f
    by _ _ (before g none) written room = refl
    by _ _ (unwritten output some part) written room = absurd (written refl)
    by _ _ (no_room output part) written room = absurd (room refl)

-- ---- where no device failed

completed : (answer : Answer) (st : Status) → IsStatusOnDisk answer st → st ≢ status.ReadFailed → st ≢ status.WriteFailed → st ≢ status.DiskFailed
    → (st ≡ status.NoMemory) ⊎ (st ≡ answer.status)
completed answer status.ReadFailed is read written disk = absurd (read refl)
completed answer status.WriteFailed is read written disk = absurd (written refl)
completed answer status.NoMemory is read written disk = inl refl
completed answer status.DiskFailed is read written disk = absurd (disk refl)
completed answer _ is read written disk = inr is

pub completes_job : {F O E K : Type 0} (the_files : files.Ghosts F) (the_out : sink.Ghosts O) (the_err : sink.Ghosts E) (the_disk : disks.Ghosts K)
    (s : RunSettings) (st : Status) (files new_files : F) (out new_out : O) (err new_err : E) (disk : K)
    → MeansJob the_files the_out the_err the_disk s st files new_files out new_out err new_err disk → st ≢ status.ReadFailed → st ≢ status.WriteFailed
    → st ≢ status.DiskFailed → CompletesJob the_files the_out the_err the_disk s st files new_files out new_out err new_err disk
completes_job the_files the_out the_err the_disk s st files new_files out new_out err new_err disk means read written failed =
    record { means = means; status_is = completed means.outcome st means.answers read written failed }

-- which failure a status is told for
of_read : (f : Failure) → status_of f ≡ status.ReadFailed → f ≡ failure.ReadFailed
of_read failure.ReadFailed e = refl
of_read _ e = absurd (cc)

of_write : (f : Failure) → status_of f ≡ status.WriteFailed → f ≡ failure.WriteFailed
of_write failure.WriteFailed e = refl
of_write _ e = absurd (cc)

told_failure : (f told wanted : Failure) → (told ≡ f) ⊎ (told ≡ failure.NoMemory) → told ≡ wanted → wanted ≢ failure.NoMemory → f ≡ wanted
told_failure f told wanted (inl is) e other = sym is ∙ e
told_failure f told wanted (inr is) e other = absurd (other (sym e ∙ is))

module _ {F K : Type 0} (the_files : files.Ghosts F) (the_disk : disks.Ghosts K) (old new : F) (disk : K)
    (job : Option RunSettings) (asked : Option Settings) (made : Result (List ℕ) Failure)
    (answers : AnswersAsked the_files the_disk old new disk job asked made) (f told : Failure)
    (told_is : (told ≡ f) ⊎ (told ≡ failure.NoMemory)) (out new_out : Option (List ℕ)) (printed : Prints {T = Unit {0}} out new_out made (Err f)) where
  pub read_told : status_of told ≡ status.ReadFailed → Rose (the_files.faults old) (the_files.faults new)
  read_told e =
      let is : f ≡ failure.ReadFailed = told_failure f told failure.ReadFailed told_is (of_read told e) (λ no. cc) in
      let there = failed_before made f out new_out printed (λ w. let no = sym is ∙ w in absurd (cc)) (λ n. let no = sym is ∙ n in absurd (cc)) in
      read_rose the_files the_disk old new disk job asked (subst (AnswersAsked the_files the_disk old new disk job asked) (there ∙ ap Err is) answers)

  pub write_told : (rose : Type 0) → (f ≡ failure.WriteFailed → (made ≡ Err failure.WriteFailed) ⊎ rose) → status_of told ≡ status.WriteFailed → rose
  write_told rose failed e =
      by (failed (told_failure f told failure.WriteFailed told_is (of_write told e) (λ no. cc)))
    where
      by : (made ≡ Err failure.WriteFailed) ⊎ rose → rose
      by (inl is) = absurd (not_written the_files the_disk old new disk job asked (subst (AnswersAsked the_files the_disk old new disk job asked) is answers))
      by (inr is) = is
