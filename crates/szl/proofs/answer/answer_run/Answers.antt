use Rattle.std.proofs.lemmas.Result.{err_from_is_err_and}
use Rattle.sz_words.specs.declared.settings.Settings.TheVariants.{Run}
use Rattle.szl.specs.Promise.{later_names}
use Rattle.std.proofs.Common.{Some}
use Rattle.szl.specs.ProgramRuns.{vec_items_of}
use Rattle.szl.proofs.SettingsLemmas.{of_run}
use Rattle.szl.proofs.AfterLemmas.{file_fails, file_known, after_read, when_both}
use Rattle.szl.proofs.SavedLemmas.{map_ok, types_save}
use Rattle.szl.proofs.answer.answer_run.Goals as goal

-- the file has no types
pub returns-in_err-types-clause-value : goal.returns-in_err-types-clause-value
returns-in_err-types-clause-value g c =
    let p = err_from_is_err_and c.from_residual.result c.from_residual.ensures.1 in
    let s = c.args.settings.now in
    rw (p.1, p.2) (file_fails g.F.Files (Run s) s.program (of_run s) c.args.files.now s.proto c.types_named.new.files c.in_err-types.field-0.0
    c.in_err-types.ensures.value)

-- the rest is answered with the file's types
pub returns-clause-value : goal.returns-clause-value
returns-clause-value g c =
    let s = c.args.settings.now in
    file_known g.F.Files (Run s) s.program (of_run s) c.args.files.now s.proto c.types_named.new.files c.run_with.new.files c.in_ok-types.types
    (vec_items_of c.run_with.result) c.in_ok-types.ensures.value c.in_ok-types.ensures.kept c.run_with.ensures.kept c.run_with.ensures.value

-- all files were read to their ends
pub returns-clause-end : goal.returns-clause-end
returns-clause-end g c =
    let s = c.args.settings.now in
    when_both c.run_with.result
    (λ end. after_read g.F.Files s.proto (later_names (Some (Run s))) c.args.files.now c.types_named.new.files c.run_with.new.files c.in_ok-types.types
    c.in_ok-types.ensures.value c.in_ok-types.ensures.kept c.run_with.ensures.kept c.in_ok-types.ensures.end end)
    c.run_with.ensures.end

-- and its tables were saved
pub returns-clause-saved : goal.returns-clause-saved
returns-clause-saved g c =
    map_ok c.run_with.result
    (λ bytes saves saving. types_save g.F.Files c.args.settings.now c.args.files.now c.types_named.new.files c.in_ok-types.types c.in_ok-types.ensures.value
    c.in_ok-types.ensures.kept bytes.items (saves saving))
    c.run_with.ensures.saved
