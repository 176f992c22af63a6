-- A job that is resumed is answered over its disk, and what else is asked without it.
use Rattle.std.proofs.Common.{◌≡◌, ◌≤◌, ◌∙◌, Some, Option, length, refl, sym, ap, subst, map, arith}
use Rattle.std.proofs.lemmas.Result.{err_from_is_err_and}
use Rattle.std.specs.Prelude.{string_bytes, IfOk, OnOk}
use Rattle.sz_words.specs.Bounds.{IsBounded}
use Rattle.sz_words.specs.Settings.{settings_in}
use Rattle.sz_words.specs.declared.settings.Settings.{Settings}
use Rattle.szl.specs.Failing.{status_of}
use Rattle.szl.specs.Judging.{failure_of_words}
use Rattle.szl.specs.Opening.{Answers, status_of_answer}
use Rattle.szl.specs.ProgramRuns.{vec_items_of}
use Rattle.szl.specs.Promise.{AreReadToEnd, most_before}
use Rattle.szl.specs.Saving.{HasSaved, IfSaving}
use Rattle.szl.specs.ResumePromise.{IfJob, KeepsJournal, job_asked, names_by}
use Rattle.szl.proofs.ResumeLemmas.{nothing_left}
use Rattle.szl.proofs.ResumedMainLemmas.{AnswersAsked, by_words_fail, in_both, job_is}
use Rattle.szl.proofs.KeepLemmas.{not_done}
use Rattle.szl.proofs.SavedLemmas.{saves_nothing}
use Rattle.szl.proofs.resuming.answer_on_disk.Goals as goal

-- the words have no settings
pub returns-in_err-settings-clause-value : goal.returns-in_err-settings-clause-value
returns-in_err-settings-clause-value g c =
    let p = err_from_is_err_and c.from_residual.result c.from_residual.ensures.1 in
    rw (p.1, p.2) (by_words_fail g.F.Files g.K.Disk c.args.files.now c.args.disk.now (map string_bytes c.args.words.now) c.args.setup.has_disk
    c.in_err-settings.field-0.0 c.in_err-settings.ensures.usage)

pub returns-in_err-settings-clause-stopped : goal.returns-in_err-settings-clause-stopped
returns-in_err-settings-clause-stopped g c =
    let p = err_from_is_err_and c.from_residual.result c.from_residual.ensures.1 in
    let f = failure_of_words c.in_err-settings.field-0.0 in
    let disk = c.args.disk.now in
    rw (p.1, p.2) (in_both (job_asked c.args.setup.has_disk (settings_in (map string_bytes c.args.words.now)))
    (λ s. KeepsJournal g.F.Files g.K.Disk s (status_of f) c.args.files.now disk disk) (disk ≡ disk)
    (λ s. nothing_left g.F.Files g.K.Disk s (status_of f) c.args.files.now disk (not_done f) (g.met.K.Disk.only_now disk)) refl)

-- a job is resumed, and its settings have their bounds
pub answer_resume-requires-clause-few : goal.answer_resume-requires-clause-few
answer_resume-requires-clause-few g c κs within =
    let few = subst (λ asked. length (g.F.Files.names c.args.files.now) ≤ most_before asked)
    (c.in_ok-settings.ensures.value ∙ ap some c.in-Some.ensures.some.1) c.requires in
    omega (arith, few)
  where
    some : Settings → Option Settings
    some s = Some s

pub answer_resume-requires-clause-bounds : goal.answer_resume-requires-clause-bounds
answer_resume-requires-clause-bounds g c κs within =
    let bounds = subst IsBounded c.in-Some.ensures.some.1 c.in_ok-settings.ensures.bounds in bounds.0

pub answer_resume-requires-clause-no_save : goal.answer_resume-requires-clause-no_save
answer_resume-requires-clause-no_save g c κs within =
    let bounds = subst IsBounded c.in-Some.ensures.some.1 c.in_ok-settings.ensures.bounds in bounds.1

pub returns-in-Some-clause-value : goal.returns-in-Some-clause-value
returns-in-Some-clause-value g c =
    let asked = settings_in (map string_bytes c.args.words.now) in
    let there = job_is c.args.setup.has_disk asked _ _ c.in-Some.ensures.some.0 c.in_ok-settings.ensures.value c.in-Some.ensures.some.1 in
    subst (λ job. AnswersAsked g.F.Files g.K.Disk c.args.files.now c.answer_resume.new.files c.args.disk.now job asked
    (vec_items_of c.answer_resume.result)) (sym there) c.answer_resume.ensures.value

pub returns-in-Some-clause-end : goal.returns-in-Some-clause-end
returns-in-Some-clause-end g c =
    let asked = settings_in (map string_bytes c.args.words.now) in
    let there = job_is c.args.setup.has_disk asked _ _ c.in-Some.ensures.some.0 c.in_ok-settings.ensures.value c.in-Some.ensures.some.1 in
    subst (λ job. OnOk c.answer_resume.result (AreReadToEnd g.F.Files c.args.files.now c.answer_resume.new.files (names_by job asked)))
    (sym there) c.answer_resume.ensures.end

pub returns-in-Some-clause-saved : goal.returns-in-Some-clause-saved
returns-in-Some-clause-saved g c =
    subst (λ asked. IfOk c.answer_resume.result (λ bytes. IfSaving asked (λ s. HasSaved g.F.Files s c.args.files.now bytes.items)))
    (sym (c.in_ok-settings.ensures.value ∙ ap Some c.in-Some.ensures.some.1)) (saves_nothing c.answer_resume.result)

pub returns-in-Some-clause-stopped : goal.returns-in-Some-clause-stopped
returns-in-Some-clause-stopped g c =
    let asked = settings_in (map string_bytes c.args.words.now) in
    let there = job_is c.args.setup.has_disk asked _ _ c.in-Some.ensures.some.0 c.in_ok-settings.ensures.value c.in-Some.ensures.some.1 in
    subst (λ job. IfJob job (λ s. KeepsJournal g.F.Files g.K.Disk s (status_of_answer (vec_items_of c.answer_resume.result)) c.args.files.now
    c.args.disk.now c.answer_resume.new.disk) (c.answer_resume.new.disk ≡ c.args.disk.now)) (sym there) c.answer_resume.ensures.stopped

-- what else is asked is answered
pub answer_settings-requires-clause-few : goal.answer_settings-requires-clause-few
answer_settings-requires-clause-few g c κs within =
    subst (λ asked. length (g.F.Files.names c.args.files.now) ≤ most_before asked) c.in_ok-settings.ensures.value c.requires

pub answer_settings-requires-clause-bounds : goal.answer_settings-requires-clause-bounds
answer_settings-requires-clause-bounds g c κs within = c.in_ok-settings.ensures.bounds

pub returns-clause-value : goal.returns-clause-value
returns-clause-value g c =
    let asked = settings_in (map string_bytes c.args.words.now) in
    let none = ap (job_asked c.args.setup.has_disk) c.in_ok-settings.ensures.value ∙ c.in-None.ensures.none in
    let made = vec_items_of c.answer_settings.result in
    subst (λ job. AnswersAsked g.F.Files g.K.Disk c.args.files.now c.answer_settings.new.files c.args.disk.now job asked made) (sym none)
    (subst (λ settings. Answers g.F.Files settings c.args.files.now c.answer_settings.new.files made) (sym c.in_ok-settings.ensures.value)
    c.answer_settings.ensures.value)

pub returns-clause-end : goal.returns-clause-end
returns-clause-end g c =
    subst (λ settings. OnOk c.answer_settings.result (AreReadToEnd g.F.Files c.args.files.now c.answer_settings.new.files
    (names_by (job_asked c.args.setup.has_disk settings) settings))) (sym c.in_ok-settings.ensures.value)
    (subst (λ job. OnOk c.answer_settings.result (AreReadToEnd g.F.Files c.args.files.now c.answer_settings.new.files
    (names_by job (Some c.in_ok-settings.settings)))) (sym c.in-None.ensures.none) c.answer_settings.ensures.end)

pub returns-clause-saved : goal.returns-clause-saved
returns-clause-saved g c =
    subst (λ asked. IfOk c.answer_settings.result (λ bytes. IfSaving asked (λ s. HasSaved g.F.Files s c.args.files.now bytes.items)))
    (sym c.in_ok-settings.ensures.value) c.answer_settings.ensures.saved

pub returns-clause-stopped : goal.returns-clause-stopped
returns-clause-stopped g c =
    let none = ap (job_asked c.args.setup.has_disk) c.in_ok-settings.ensures.value ∙ c.in-None.ensures.none in
    subst (λ job. IfJob job (λ s. KeepsJournal g.F.Files g.K.Disk s (status_of_answer (vec_items_of c.answer_settings.result)) c.args.files.now
    c.args.disk.now c.args.disk.now) (c.args.disk.now ≡ c.args.disk.now)) (sym none) refl
