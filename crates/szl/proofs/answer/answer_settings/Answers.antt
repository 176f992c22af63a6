use Rattle.std.proofs.Common.{[], Some, sym, subst}
use Rattle.std.specs.Prelude.{IfOk, OnOk, Err}
use Rattle.sz_words.specs.declared.settings.Settings.TheVariants.{Check, Selftest, Resume, Merge}
use Rattle.szl.specs.declared.failure.Failure.TheVariants.{Usage}
use Rattle.szl.specs.MergeAnswers.{AnswersMerge}
use Rattle.szl.specs.Opening.{Answers}
use Rattle.szl.specs.Promise.{AreReadToEnd, names_asked}
use Rattle.szl.specs.ProgramRuns.{vec_items_of}
use Rattle.szl.specs.Saving.{HasSaved, IfSaving}
use Rattle.sz_words.specs.Bounds.{IsBounded}
use Rattle.szl.proofs.AfterLemmas.{no_file}
use Rattle.szl.proofs.SelftestLemmas.{selftest_answered, nothing_opened}
use Rattle.szl.proofs.SettingsLemmas.{when_ok, no_disk}
use Rattle.szl.proofs.WordsLemmas.{merge_answered}
use Rattle.szl.proofs.SavedLemmas.{saves_nothing}
use Rattle.szl.proofs.answer.answer_settings.Goals as goal

-- a self test opens no file
pub returns-in-Selftest-clause-value : goal.returns-in-Selftest-clause-value
returns-in-Selftest-clause-value g c =
    subst (λ s. Answers g.F.Files (Some s) c.args.files.now c.args.files.now (vec_items_of c.answer_selftest.result)) (sym c.in-Selftest.is)
    (no_file g.F.Files (Some (Selftest c.in-Selftest.seed c.in-Selftest.records c.in-Selftest.workers)) c.args.files.now c.args.files.now
    (vec_items_of c.answer_selftest.result)
    (selftest_answered g.F.Files c.args.files.now c.in-Selftest.seed c.in-Selftest.records c.in-Selftest.workers
    (vec_items_of c.answer_selftest.result) c.answer_selftest.ensures.value))

pub returns-in-Selftest-clause-end : goal.returns-in-Selftest-clause-end
returns-in-Selftest-clause-end g c =
    subst (λ s. OnOk c.answer_selftest.result (AreReadToEnd g.F.Files c.args.files.now c.args.files.now (names_asked (Some s)))) (sym c.in-Selftest.is)
    (when_ok c.answer_selftest.result (nothing_opened g.F.Files c.args.files.now))

-- its numbers are within their bounds
pub answer_selftest-requires-clause-within : goal.answer_selftest-requires-clause-within
answer_selftest-requires-clause-within g c κs within = let bounds = subst IsBounded c.in-Selftest.is c.requires.bounds in bounds.0

pub answer_selftest-requires-clause-workers : goal.answer_selftest-requires-clause-workers
answer_selftest-requires-clause-workers g c κs within = let bounds = subst IsBounded c.in-Selftest.is c.requires.bounds in bounds.1

-- a job can't be resumed without a disk
pub returns-in-Resume-clause-value : goal.returns-in-Resume-clause-value
returns-in-Resume-clause-value g c =
    subst (λ s. Answers g.F.Files (Some s) c.args.files.now c.args.files.now (Err Usage)) (sym c.in-Resume.is)
    (no_file g.F.Files (Some (Resume c.in-Resume.field-0)) c.args.files.now c.args.files.now (Err Usage)
    (no_disk g.F.Files [] c.args.files.now c.in-Resume.field-0))

-- a check is answered
pub returns-in-Check-clause-value : goal.returns-in-Check-clause-value
returns-in-Check-clause-value g c =
    subst (λ s. Answers g.F.Files (Some s) c.args.files.now c.answer_check.new.files (vec_items_of c.answer_check.result)) (sym c.in-Check.is)
    (subst (λ program. Answers g.F.Files (Some (Check program c.in-Check.proto)) c.args.files.now c.answer_check.new.files
    (vec_items_of c.answer_check.result)) c.as_str.ensures.value c.answer_check.ensures.value)

-- files are joined
pub returns-in-Merge-clause-value : goal.returns-in-Merge-clause-value
returns-in-Merge-clause-value g c =
    subst (λ s. Answers g.F.Files (Some s) c.args.files.now c.answer_merge.new.files (vec_items_of c.answer_merge.result)) (sym c.in-Merge.is)
    (no_file g.F.Files (Some (Merge c.in-Merge.names c.in-Merge.save)) c.args.files.now c.answer_merge.new.files (vec_items_of c.answer_merge.result)
    (merge_answered g.F.Files [] c.in-Merge.names c.in-Merge.save c.args.files.now c.answer_merge.new.files (vec_items_of c.answer_merge.result)
    (subst (λ names. AnswersMerge g.F.Files names c.in-Merge.save c.args.files.now c.answer_merge.new.files (vec_items_of c.answer_merge.result))
    c.as_slice.ensures.value c.answer_merge.ensures.value)))

-- other settings than those of a run save nothing
pub returns-in-Check-clause-saved : goal.returns-in-Check-clause-saved
returns-in-Check-clause-saved g c =
    subst (λ s. IfOk c.answer_check.result (λ bytes. IfSaving (Some s) (λ run. HasSaved g.F.Files run c.args.files.now bytes.items))) (sym c.in-Check.is)
    (saves_nothing c.answer_check.result)

pub returns-in-Selftest-clause-saved : goal.returns-in-Selftest-clause-saved
returns-in-Selftest-clause-saved g c =
    subst (λ s. IfOk c.answer_selftest.result (λ bytes. IfSaving (Some s) (λ run. HasSaved g.F.Files run c.args.files.now bytes.items))) (sym c.in-Selftest.is)
    (saves_nothing c.answer_selftest.result)

pub returns-in-Merge-clause-saved : goal.returns-in-Merge-clause-saved
returns-in-Merge-clause-saved g c =
    subst (λ s. IfOk c.answer_merge.result (λ bytes. IfSaving (Some s) (λ run. HasSaved g.F.Files run c.args.files.now bytes.items))) (sym c.in-Merge.is)
    (saves_nothing c.answer_merge.result)
