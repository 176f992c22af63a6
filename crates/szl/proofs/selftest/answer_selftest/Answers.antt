use Rattle.std.proofs.Common.{[], sym, subst}
use Rattle.std.proofs.lemmas.Result.{err_from_is_err_and}
use Rattle.std.specs.Prelude.{◌≡◌, ◌≤◌, length, Ok}
use Rattle.sz_words.specs.declared.settings.RunSettings.{RunSettings}
use Rattle.sz_mean.specs.Marked.{marked}
use Rattle.sz_protofile_types.specs.Sound.{AreSound}
use Rattle.szl.specs.ProtoReads.{HaveTypeBytes}
use Rattle.szl.specs.Savable.{savable}
use Rattle.sz_feed.specs.Feed.{file_of}
use Rattle.sz_feed.specs.Program.{program_text}
use Rattle.sz_tree.specs.View.{program_of}
use Rattle.szl.specs.Judging.{IsFailureOf, IsFailureOn}
use Rattle.sz_refusals.specs.Texts.{HasStatements, most_program_bytes}
use Rattle.szl.specs.Opening.{AnswersOver}
use Rattle.szl.specs.ProgramRuns.{vec_items_of}
use Rattle.sz_words.specs.Bounds.{HasBounds}
use Rattle.szl.specs.Settings.{selftest_run}
use Rattle.szl.proofs.NamedLemmas.{none_sound}
use Rattle.szl.proofs.SelftestLemmas.{is_short, has_bounds, no_memory_text, text_refused_over, statements_refused_over, program_over}
use Rattle.szl.proofs.selftest.answer_selftest.Goals as goal

-- there was no memory for the settings, or for the file
pub returns-in_err-settings : goal.returns-in_err-settings
returns-in_err-settings g c =
    let p = err_from_is_err_and c.from_residual.result c.from_residual.ensures.1 in
    record { value = rw (p.1, p.2) (no_memory_text (selftest_run c.args.workers) program_text (file_of c.args.seed c.args.records)) }

pub returns-in_err-input : goal.returns-in_err-input
returns-in_err-input g c =
    let p = err_from_is_err_and c.from_residual-in_err-input.result c.from_residual-in_err-input.ensures.1 in
    record { value = rw (p.1, p.2) (no_memory_text (selftest_run c.args.workers) program_text (file_of c.args.seed c.args.records)) }

-- the program is short
pub tree_in-requires : goal.tree_in-requires
tree_in-requires g c = record { short = subst (λ text. length text ≤ most_program_bytes) (sym c.program_bytes.ensures.value) is_short }

-- it has no tree
pub returns-in_err-tree : goal.returns-in_err-tree
returns-in_err-tree g c =
    let p = err_from_is_err_and c.from_residual-in_err-tree.result c.from_residual-in_err-tree.ensures.1 in
    let f = c.in_err-tree.field-0.0 in
    record {
      value = rw (p.1, p.2) (text_refused_over (selftest_run c.args.workers) program_text (file_of c.args.seed c.args.records) f
          (subst (λ text. IsFailureOf text f) c.program_bytes.ensures.value c.in_err-tree.ensures.refused));
    }

-- no types are known
pub savable-requires : goal.savable-requires
savable-requires g c = record {
  sound = subst AreSound (sym c.new-types.ensures.value) none_sound;
  named = subst HaveTypeBytes (sym c.new-types.ensures.value) tt;
}

-- the tree is refused
pub returns-in_err-program : goal.returns-in_err-program
returns-in_err-program g c =
    let p = err_from_is_err_and c.from_residual-in_err-program.result c.from_residual-in_err-program.ensures.1 in
    let ss = program_of c.in_ok-tree.tree in
    let has = subst (λ text. HasStatements text ss) c.program_bytes.ensures.value c.in_ok-tree.ensures.found in
    record {
      value = rw (p.1, p.2) (statements_refused_over (selftest_run c.args.workers) program_text (file_of c.args.seed c.args.records) ss is_short has
          c.in_err-program.field-0.0 (subst (λ (s : RunSettings). IsFailureOn (savable [] s.save s.ignore_undefs ss) c.in_err-program.field-0.0)
          c.in_ok-settings.ensures.value (subst (λ types. IsFailureOn (savable types c.in_ok-settings.settings.save
          c.in_ok-settings.settings.ignore_undefs ss) c.in_err-program.field-0.0) c.new-types.ensures.value c.in_err-program.ensures.refused)));
    }

-- the settings have their bounds
pub answer_over-requires-clause-bounds : goal.answer_over-requires-clause-bounds
answer_over-requires-clause-bounds g c κs within = subst HasBounds (sym c.in_ok-settings.ensures.value) (has_bounds c.args.workers c.requires.workers)

-- its tables can be saved, if they are to be
pub answer_over-requires-clause-can_save : goal.answer_over-requires-clause-can_save
answer_over-requires-clause-can_save g c κs within =
    let has = subst (λ text. HasStatements text (program_of c.in_ok-tree.tree)) c.program_bytes.ensures.value c.in_ok-tree.ensures.found in
    c.in_ok-program.ensures.spelled program_text is_short has

-- the program was run
pub returns : goal.returns
returns g c =
    let ss = program_of c.in_ok-tree.tree in
    let s = selftest_run c.args.workers in
    let answer = vec_items_of c.answer_over.result in
    let core = c.in_ok-program.program in
    let program = marked core s.ignore_undefs in
    let has = subst (λ text. HasStatements text ss) c.program_bytes.ensures.value c.in_ok-tree.ensures.found in
    let over = subst (λ (s : RunSettings). AnswersOver (marked core s.ignore_undefs) s c.deref.result.now answer) c.in_ok-settings.ensures.value
    c.answer_over.ensures.value in
    let all = subst (λ bytes. AnswersOver program s bytes answer) c.deref.ensures.value over in
    record {
      value = program_over s program_text (file_of c.args.seed c.args.records) ss is_short has program
          (subst (λ (s : RunSettings). savable [] s.save s.ignore_undefs ss ≡ Ok (marked core s.ignore_undefs)) c.in_ok-settings.ensures.value
          (subst (λ types. savable types c.in_ok-settings.settings.save c.in_ok-settings.settings.ignore_undefs ss
          ≡ Ok (marked core c.in_ok-settings.settings.ignore_undefs)) c.new-types.ensures.value c.in_ok-program.ensures.found)) answer
          (subst (λ bytes. AnswersOver program s bytes answer) c.in_ok-input.ensures.value all);
    }
