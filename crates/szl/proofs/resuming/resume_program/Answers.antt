-- The job is made, its journal is opened, and it goes on after that.
use Rattle.std.proofs.Common.{◌≡◌, [], ◌∷◌, refl, sym, ap, ◌∙◌, subst, Some, List, ℕ}
use Rattle.std.specs.Prelude.{Ok}
use Rattle.std.proofs.lemmas.Result.{err_from_is_err_and}
use Rattle.sz_attempt.specs.declared.job.Job.{Job}
use Rattle.sz_mean.specs.Marked.{marked, all_tables}
use Rattle.sz_journal.specs.Rounds.{AreRounds}
use Rattle.sz_journal.specs.Journal.{rounds_of, KeepsRounds}
use Rattle.sz_journal.specs.Opening.{FitsAnswer, FitsError, IsKept}
use Rattle.sz_journal.specs.declared.error.OpenError.TheVariants as errors
use Rattle.sz_disk.specs.Crashing.{LeavesOnly}
use Rattle.sz_save.specs.Saving.{HaveSpelling}
use Rattle.sz_total.specs.Weights.{HaveTheirWeights}
use Rattle.sz_attempt.proofs.ForCallers.{have_their_weights}
use Rattle.sz_resume.specs.Joining.{HaveJoined}
use Rattle.szl.specs.declared.failure.Failure.TheVariants as failure
use Rattle.szl.specs.Failing.{status_of}
use Rattle.szl.specs.JournalRuns.{failure_of_journal, AnswersJob, IsAfterRounds, but_one}
use Rattle.szl.specs.Opening.{status_of_answer}
use Rattle.szl.specs.ProgramRuns.{vec_items_of}
use Rattle.szl.specs.Resuming.{source_of}
use Rattle.szl.specs.Shards.{job_of}
use Rattle.szl.proofs.JobLemmas.{no_job, no_journal, after_journal, job_keeps, is_journal, keeps_unopened}
use Rattle.szl.proofs.KeepLemmas.{keeps_none, not_done, entries_untouched, entries_opened, entries_after}
use Rattle.szl.proofs.resuming.resume_program.Goals as goal

-- a static faults, or there was no memory for the job
pub returns-in_err-run-clause-value : goal.returns-in_err-run-clause-value
returns-in_err-run-clause-value g c =
    let p = err_from_is_err_and c.from_residual.result c.from_residual.ensures.1 in
    let s = c.args.settings.now in
    rw (p.1, p.2) (no_job g.F.Files s (marked c.args.program s.ignore_undefs) c.args.bytes.now c.args.files.now (g.K.Disk.bytes c.args.disk.now)
    c.in_err-run.field-0.0 c.in_err-run.ensures.value)

pub returns-in_err-run-clause-stopped : goal.returns-in_err-run-clause-stopped
returns-in_err-run-clause-stopped g c =
    let p = err_from_is_err_and c.from_residual.result c.from_residual.ensures.1 in
    let s = c.args.settings.now in
    let f = c.in_err-run.field-0.0 in
    let disk = c.args.disk.now in
    rw (p.1, p.2) (record {
      untouched = λ none. refl;
      entries = entries_untouched g.K.Disk (λ other. other ≡ c.args.bytes.now) disk (g.met.K.Disk.only_now disk);
      found = λ input held told read slots begun before found.
          keeps_none c.args.bytes.now (job_of (marked c.args.program s.ignore_undefs) slots s) (source_of s input) g.K.Disk held before found (status_of f)
          (not_done f) disk (g.met.K.Disk.only_now disk);
    })

-- there was no memory for what the rounds hold together
pub returns-in_err-joined-clause-value : goal.returns-in_err-joined-clause-value
returns-in_err-joined-clause-value g c =
    let p = err_from_is_err_and c.from_residual-in_err-joined.result c.from_residual-in_err-joined.ensures.1 in
    let s = c.args.settings.now in
    let made = c.in_ok-run.ensures.value.is_for in
    rw (p.1, p.2) (no_journal g.F.Files s (marked c.args.program s.ignore_undefs) c.args.bytes.now c.args.files.now (g.K.Disk.bytes c.args.disk.now) made.slots
    made.means errors.NoMemory (λ held told. tt))

pub returns-in_err-joined-clause-stopped : goal.returns-in_err-joined-clause-stopped
returns-in_err-joined-clause-stopped g c =
    let p = err_from_is_err_and c.from_residual-in_err-joined.result c.from_residual-in_err-joined.ensures.1 in
    let s = c.args.settings.now in
    let disk = c.args.disk.now in
    let made = c.in_ok-run.ensures.value.is_for in
    rw (p.1, p.2) (record {
      untouched = λ none. refl;
      entries = entries_untouched g.K.Disk (λ other. other ≡ c.args.bytes.now) disk (g.met.K.Disk.only_now disk);
      found = λ input held told read slots begun before found.
          keeps_none c.args.bytes.now (job_of (marked c.args.program s.ignore_undefs) slots s) (source_of s input) g.K.Disk held before found
          (status_of failure.NoMemory) (not_done failure.NoMemory) disk (g.met.K.Disk.only_now disk);
    })

-- the tables of a sound program have their weights
pub new-requires : goal.new-requires
new-requires g c =
    let r = c.in_ok-run.ensures.value.can_resume in
    record {
      weights = subst HaveTheirWeights (sym c.tables-decls.ensures.value) (have_their_weights c.in_ok-run.run'.job.compiled r.is_job.sound);
      spelled = subst HaveSpelling (sym c.tables-decls.ensures.value) r.spelled;
    }

-- the journal isn't opened
pub returns-in_err-tail-clause-value : goal.returns-in_err-tail-clause-value
returns-in_err-tail-clause-value g c =
    let p = err_from_is_err_and c.from_residual-in_err-tail.result c.from_residual-in_err-tail.ensures.1 in
    let s = c.args.settings.now in
    let program = marked c.args.program s.ignore_undefs in
    let made = c.in_ok-run.ensures.value.is_for in
    let decls = c.tables-decls.ensures.value ∙ ap (λ (j : Job). all_tables j.compiled) made.is_job_of.same in
    let e = c.in_err-tail.field-0.0 in
    rw (p.1, p.2) (no_journal g.F.Files s program c.args.bytes.now c.args.files.now (g.K.Disk.bytes c.args.disk.now) made.slots made.means e
    (λ held told. subst (λ ds. FitsError c.args.bytes.now ds held e) decls (c.in_err-tail.ensures.causes held told)))

pub returns-in_err-tail-clause-stopped : goal.returns-in_err-tail-clause-stopped
returns-in_err-tail-clause-stopped g c =
    let p = err_from_is_err_and c.from_residual-in_err-tail.result c.from_residual-in_err-tail.ensures.1 in
    let s = c.args.settings.now in
    let program = marked c.args.program s.ignore_undefs in
    let made = c.in_ok-run.ensures.value.is_for in
    let decls = c.tables-decls.ensures.value ∙ ap (λ (j : Job). all_tables j.compiled) made.is_job_of.same in
    let f = failure_of_journal c.in_err-tail.field-0.0 in
    let disk = c.args.disk.now in
    let mid = c.open_rounds.new.disk in
    rw (p.1, p.2) (record {
      untouched = λ none. absurd (none made.slots made.means);
      entries = entries_opened g.K.Disk c.args.bytes.now c.tables-decls.result.now disk mid c.open_rounds.ensures.leaves;
      found = λ input held told read slots begun before found.
          keeps_unopened c.one_standing.ensures.law s c.requires.bounds.shard program slots c.args.bytes.now c.requires.low g.K.Disk input held before
          (status_of f) (not_done f) disk mid found
          (λ is. subst (λ ds. LeavesOnly g.K.Disk.time g.K.Disk.left_since disk mid (IsKept c.args.bytes.now ds (g.K.Disk.may_leave disk) held)) decls
          (c.open_rounds.ensures.leaves held read is));
    })

-- the job can be resumed, and has this journal
pub text_after-requires-clause-can_resume : goal.text_after-requires-clause-can_resume
text_after-requires-clause-can_resume g c κs within = c.in_ok-run.ensures.value.can_resume

pub text_after-requires-clause-read_as : goal.text_after-requires-clause-read_as
text_after-requires-clause-read_as g c κs within = c.in_ok-run.ensures.value.read_as

pub text_after-requires-clause-journal : goal.text_after-requires-clause-journal
text_after-requires-clause-journal g c κs within =
    let name = c.args.bytes.now in
    let journal = c.in_ok-tail.tail in
    let job = c.in_ok-run.run'.job in
    let same = c.in_ok-run.ensures.value.is_for.is_job_of.same in
    let mid = c.open_rounds.new.disk in
    record {
      name = name;
      is = is_journal name job journal (g.K.Disk.bytes c.args.disk.now) (g.K.Disk.bytes mid) (g.K.Disk.may_leave mid) c.in_ok-tail.ensures.is_of
          (c.requires.budget ∙ sym (ap (λ (j : Job). j.budget) same)) (c.requires.skip ∙ sym (ap (λ (j : Job). j.skip) same))
          c.open_rounds.ensures.untold
          (λ held told. subst (λ ds. KeepsRounds (g.K.Disk.bytes mid) (g.K.Disk.may_leave mid) name ds (rounds_of journal)) c.tables-decls.ensures.value
          (c.in_ok-tail.ensures.ok held told))
          (subst (λ ds. AreRounds name ds (rounds_of journal)) c.tables-decls.ensures.value c.in_ok-tail.ensures.are);
      joined = subst (λ ds. HaveJoined c.open_rounds.new.keeper ds (rounds_of journal)) c.tables-decls.ensures.value c.in_ok-tail.ensures.keeper;
    }

-- the job goes on after its journal
pub returns-clause-value : goal.returns-clause-value
returns-clause-value g c =
    let s = c.args.settings.now in
    let program = marked c.args.program s.ignore_undefs in
    let name = c.args.bytes.now in
    let made = c.in_ok-run.ensures.value.is_for in
    let job = c.in_ok-run.run'.job in
    let journal = c.in_ok-tail.tail in
    let old = c.args.files.now in
    let new = c.text_after.new.files in
    let mid = g.K.Disk.bytes c.open_rounds.new.disk in
    let may = g.K.Disk.may_leave c.open_rounds.new.disk in
    let answer = vec_items_of c.text_after.result in
    let decls = c.tables-decls.ensures.value ∙ ap (λ (j : Job). all_tables j.compiled) made.is_job_of.same in
    after_journal c.one_standing.ensures.law s c.requires.bounds.shard c.requires.no_save program made.slots made.means name c.requires.low job.twice journal
    g.F.Files old new (g.K.Disk.bytes c.args.disk.now) mid may answer
    (λ held told. subst (λ ds. FitsAnswer name ds held (Ok journal)) decls (c.in_ok-tail.ensures.causes held told))
    (λ held told. subst (λ ds. KeepsRounds mid may name ds (rounds_of journal)) decls (c.in_ok-tail.ensures.ok held told))
    (subst (λ (j : Job). AnswersJob g.F.Files (λ st. IsAfterRounds s j name (rounds_of journal) (g.F.Files.held old s.input) mid) (s.input ∷ []) but_one old new
    answer) made.is_job_of.same (c.text_after.ensures.value name c.in_ok-tail.ensures.is_of))

pub returns-clause-stopped : goal.returns-clause-stopped
returns-clause-stopped g c =
    let s = c.args.settings.now in
    let program = marked c.args.program s.ignore_undefs in
    let name = c.args.bytes.now in
    let made = c.in_ok-run.ensures.value.is_for in
    let job = c.in_ok-run.run'.job in
    let same = made.is_job_of.same in
    let journal = c.in_ok-tail.tail in
    let disk = c.args.disk.now in
    let mid = c.open_rounds.new.disk in
    let new = c.text_after.new.disk in
    let st = status_of_answer (vec_items_of c.text_after.result) in
    let decls = c.tables-decls.ensures.value ∙ ap (λ (j : Job). all_tables j.compiled) same in
    let here : (bytes : List ℕ) → g.K.Disk.bytes disk ≡ Some bytes
    → KeepsRounds (g.K.Disk.bytes mid) (g.K.Disk.may_leave mid) name (all_tables job.compiled) (rounds_of journal)
    = λ bytes there. subst (λ ds. KeepsRounds (g.K.Disk.bytes mid) (g.K.Disk.may_leave mid) name ds (rounds_of journal)) c.tables-decls.ensures.value
    (c.in_ok-tail.ensures.ok bytes there) in
    let is = is_journal name job journal (g.K.Disk.bytes disk) (g.K.Disk.bytes mid) (g.K.Disk.may_leave mid) c.in_ok-tail.ensures.is_of
    (c.requires.budget ∙ sym (ap (λ (j : Job). j.budget) same)) (c.requires.skip ∙ sym (ap (λ (j : Job). j.skip) same)) c.open_rounds.ensures.untold here
    (subst (λ ds. AreRounds name ds (rounds_of journal)) c.tables-decls.ensures.value c.in_ok-tail.ensures.are) in
    record {
      untouched = λ none. absurd (none made.slots made.means);
      entries = entries_after g.K.Disk name (all_tables job.compiled) disk mid
          (λ held read at. subst (λ ds. LeavesOnly g.K.Disk.time g.K.Disk.left_since disk mid (IsKept name ds (g.K.Disk.may_leave disk) held))
          c.tables-decls.ensures.value (c.open_rounds.ensures.leaves held read at))
          journal new (λ held told. subst (λ ds. FitsAnswer name ds held (Ok journal)) c.tables-decls.ensures.value (c.in_ok-tail.ensures.causes held told)) here
          c.open_rounds.ensures.told (λ held rests at. c.text_after.ensures.entries name held rests at is);
      found = λ input held told read slots begun before found. (
          let keeps = subst (λ ds. KeepsRounds (g.K.Disk.bytes mid) (g.K.Disk.may_leave mid) name ds (rounds_of journal)) decls
          (c.in_ok-tail.ensures.ok held read) in
          let fits = subst (λ ds. FitsAnswer name ds held (Ok journal)) decls (c.in_ok-tail.ensures.causes held read) in
          job_keeps c.one_standing.ensures.law s c.requires.bounds.shard c.requires.no_save program slots begun name c.requires.low job.twice journal
          g.K.Disk job made.slots made.means made.is_job_of input held before st disk mid new found fits keeps c.open_rounds.ensures.told
          (λ at. subst (λ ds. LeavesOnly g.K.Disk.time g.K.Disk.left_since disk mid (IsKept name ds (g.K.Disk.may_leave disk) held)) decls
          (c.open_rounds.ensures.leaves held read at))
          refl (λ now. c.text_after.ensures.stopped input keeps.held name told keeps.rests is now));
    }
