use Rattle.std.proofs.lemmas.Result.{err_from_is_err_and}
use Rattle.std.proofs.Common.{Some}
use Rattle.sz_words.specs.declared.settings.Settings.TheVariants.{Check}
use Rattle.szl.specs.Promise.{later_names}
use Rattle.szl.specs.ProgramRuns.{vec_items_of}
use Rattle.szl.proofs.SettingsLemmas.{of_check}
use Rattle.szl.proofs.AfterLemmas.{file_fails, file_known, after_read, when_both}
use Rattle.szl.proofs.answer.answer_check.Goals as goal

-- the file has no types
pub returns-in_err-types-clause-value : goal.returns-in_err-types-clause-value
returns-in_err-types-clause-value g c =
    let p = err_from_is_err_and c.from_residual.result c.from_residual.ensures.1 in
    let program = c.args.program.now in
    let proto = c.args.proto.now in
    rw (p.1, p.2) (file_fails g.F.Files (Check program proto) program (of_check program proto) c.args.files.now proto c.types_named.new.files
    c.in_err-types.field-0.0 c.in_err-types.ensures.value)

-- the check is answered with the file's types
pub returns-clause-value : goal.returns-clause-value
returns-clause-value g c =
    let program = c.args.program.now in
    let proto = c.args.proto.now in
    file_known g.F.Files (Check program proto) program (of_check program proto) c.args.files.now proto c.types_named.new.files c.check_named.new.files
    c.in_ok-types.types (vec_items_of c.check_named.result) c.in_ok-types.ensures.value c.in_ok-types.ensures.kept c.check_named.ensures.kept
    (c.check_named.ensures.value proto)

-- both files were read to their ends
pub returns-clause-end : goal.returns-clause-end
returns-clause-end g c =
    let program = c.args.program.now in
    let proto = c.args.proto.now in
    when_both c.check_named.result
    (λ end. after_read g.F.Files proto (later_names (Some (Check program proto))) c.args.files.now c.types_named.new.files c.check_named.new.files
    c.in_ok-types.types c.in_ok-types.ensures.value c.in_ok-types.ensures.kept c.check_named.ensures.kept c.in_ok-types.ensures.end end)
    c.check_named.ensures.end
