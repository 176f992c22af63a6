use Rattle.std.proofs.Common.{[], ◌∷◌, sym, subst}
use Rattle.std.proofs.lemmas.Result.{err_from_is_err_and}
use Rattle.sz_words.specs.declared.settings.Settings.TheVariants.{Run}
use Rattle.szl.specs.Opening.{AnswersText}
use Rattle.szl.specs.Promise.{AreReadToEnd}
use Rattle.szl.specs.ProgramRuns.{vec_items_of}
use Rattle.szl.proofs.SettingsLemmas.{NamesProgram, of_run, text_fails, text_read, both_when_ok, both_read}
use Rattle.szl.proofs.SavedLemmas.{map_ok, text_saves}
use Rattle.szl.proofs.answer.run_with.Goals as goal

-- the program's text couldn't be read
pub returns-in_err-text-clause-value : goal.returns-in_err-text-clause-value
returns-in_err-text-clause-value g c =
    let p = err_from_is_err_and c.from_residual.result c.from_residual.ensures.1 in
    let s = c.args.settings.now in
    rw (p.1, p.2) (text_fails g.F.Files c.args.types.now (Run s) c.as_str.result.now (subst (NamesProgram (Run s)) (sym c.as_str.ensures.value) (of_run s))
    c.args.files.now c.read_program.new.files c.in_err-text.field-0.0 c.in_err-text.ensures.text c.in_err-text.ensures.names c.in_err-text.ensures.opened)

-- the rest is answered on the text
pub returns-clause-value : goal.returns-clause-value
returns-clause-value g c =
    let s = c.args.settings.now in
    let a = subst (λ text. AnswersText g.F.Files c.args.types.now s text c.read_program.new.files c.answer_text.new.files (vec_items_of c.answer_text.result))
    c.deref.ensures.value c.answer_text.ensures.value in
    text_read g.F.Files c.args.types.now s c.as_str.result.now c.as_str.ensures.value c.args.files.now c.read_program.new.files c.answer_text.new.files
    c.in_ok-text.text.items (vec_items_of c.answer_text.result) _ c.in_ok-text.ensures.text c.in_ok-text.ensures.names c.in_ok-text.ensures.kept
    c.answer_text.ensures.kept (c.in_ok-text.ensures.opened (λ e. cc) (λ e. cc)) a

-- the program and the input were read to their ends
pub returns-clause-end : goal.returns-clause-end
returns-clause-end g c =
    let s = c.args.settings.now in
    both_when_ok c.answer_text.result
    (λ names end. subst (λ program. AreReadToEnd g.F.Files c.args.files.now c.answer_text.new.files (program ∷ s.input ∷ [])) c.as_str.ensures.value
    (both_read g.F.Files c.as_str.result.now c.args.files.now s.input c.read_program.new.files c.answer_text.new.files
    c.in_ok-text.ensures.names names c.in_ok-text.ensures.kept c.answer_text.ensures.kept c.in_ok-text.ensures.end end))
    c.answer_text.ensures.names c.answer_text.ensures.end

-- and its tables were saved
pub returns-clause-saved : goal.returns-clause-saved
returns-clause-saved g c =
    let s = c.args.settings.now in
    map_ok c.answer_text.result
    (λ bytes saves saving. text_saves g.F.Files c.args.types.now s c.as_str.result.now c.as_str.ensures.value c.args.files.now c.read_program.new.files
    c.in_ok-text.ensures.kept c.in_ok-text.text.items _ _ _ c.in_ok-text.ensures.text c.deref.result.now c.deref.ensures.value bytes.items (saves saving))
    c.answer_text.ensures.saved
