use Rattle.std.proofs.lemmas.Result.{err_from_is_err_and}
use Rattle.sz_tree.specs.View.{program_of}
use Rattle.sz_mean.specs.Marked.{marked}
use Rattle.szl.specs.ProgramRuns.{vec_items_of}
use Rattle.szl.proofs.AnswerLemmas.{text_refused, statements_refused, program_answers}
use Rattle.szl.proofs.SavedLemmas.{map_ok, run_saves}
use Rattle.szl.proofs.answer.answer_text.Goals as goal

-- the text has no tree
pub returns-in_err-tree-clause-value : goal.returns-in_err-tree-clause-value
returns-in_err-tree-clause-value g c =
    let p = err_from_is_err_and c.from_residual.result c.from_residual.ensures.1 in
    let s = c.args.settings.now in
    rw (p.1, p.2) (text_refused g.F.Files c.args.types.now s c.args.text.now c.args.files.now c.in_err-tree.field-0.0 c.in_err-tree.ensures.refused)

-- the tree is refused
pub returns-in_err-program-clause-value : goal.returns-in_err-program-clause-value
returns-in_err-program-clause-value g c =
    let p = err_from_is_err_and c.from_residual-in_err-program.result c.from_residual-in_err-program.ensures.1 in
    let s = c.args.settings.now in
    rw (p.1, p.2) (statements_refused g.F.Files c.args.types.now s c.args.text.now c.args.files.now (program_of c.in_ok-tree.tree)
    c.in_err-program.field-0.0 c.requires.short c.in_ok-tree.ensures.found c.in_err-program.ensures.refused)

-- its tables can be saved, if they are to be
pub answer_program-requires-clause-can_save : goal.answer_program-requires-clause-can_save
answer_program-requires-clause-can_save g c κs within = c.in_ok-program.ensures.spelled c.args.text.now c.requires.short c.in_ok-tree.ensures.found

-- the program was run
pub returns-clause-value : goal.returns-clause-value
returns-clause-value g c =
    let s = c.args.settings.now in
    program_answers g.F.Files c.args.types.now s c.args.text.now c.args.files.now c.answer_program.new.files (program_of c.in_ok-tree.tree)
    (marked c.in_ok-program.program s.ignore_undefs) (vec_items_of c.answer_program.result) c.requires.short c.in_ok-tree.ensures.found
    c.in_ok-program.ensures.found c.answer_program.ensures.value

-- and its tables were saved
pub returns-clause-saved : goal.returns-clause-saved
returns-clause-saved g c =
    let s = c.args.settings.now in
    map_ok c.answer_program.result
    (λ bytes saves saving. run_saves g.F.Files c.args.types.now c.args.text.now s c.args.files.now (program_of c.in_ok-tree.tree)
    (marked c.in_ok-program.program s.ignore_undefs) c.requires.short c.in_ok-tree.ensures.found saving c.in_ok-program.ensures.found bytes.items
    (saves saving))
    c.answer_program.ensures.saved
