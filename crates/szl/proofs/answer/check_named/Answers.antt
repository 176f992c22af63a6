use Rattle.std.proofs.Common.{subst}
use Rattle.std.proofs.lemmas.Result.{err_from_is_err_and}
use Rattle.szl.specs.Opening.{AnswersCheck}
use Rattle.szl.specs.ProgramRuns.{vec_items_of}
use Rattle.sz_words.specs.declared.settings.Settings.TheVariants.{Check}
use Rattle.szl.proofs.SettingsLemmas.{of_check, text_fails, text_checked, when_ok, one_read}
use Rattle.szl.proofs.answer.check_named.Goals as goal

-- the program's text couldn't be read
pub returns-in_err-text-clause-value : goal.returns-in_err-text-clause-value
returns-in_err-text-clause-value g c proto =
    let p = err_from_is_err_and c.from_residual.result c.from_residual.ensures.1 in
    rw (p.1, p.2) (text_fails g.F.Files c.args.types.now (Check c.args.program.now proto) c.args.program.now (of_check c.args.program.now proto)
    c.args.files.now c.read_program.new.files c.in_err-text.field-0.0
    c.in_err-text.ensures.text c.in_err-text.ensures.names c.in_err-text.ensures.opened)

-- the check is answered on the text
pub returns-clause-value : goal.returns-clause-value
returns-clause-value g c proto =
    let a = subst (λ text. AnswersCheck c.args.types.now text (vec_items_of c.check_text.result)) c.deref.ensures.value c.check_text.ensures.value in
    text_checked g.F.Files c.args.types.now c.args.program.now proto c.args.files.now c.read_program.new.files c.in_ok-text.text.items
    (vec_items_of c.check_text.result) _
    c.in_ok-text.ensures.text c.in_ok-text.ensures.names (c.in_ok-text.ensures.opened (λ e. cc) (λ e. cc)) a

-- the program was read to its end
pub returns-clause-end : goal.returns-clause-end
returns-clause-end g c =
    when_ok c.check_text.result
    (one_read g.F.Files c.args.program.now c.args.files.now c.read_program.new.files c.in_ok-text.ensures.names c.in_ok-text.ensures.end)
