use Rattle.std.proofs.Common.{rules}
use Rattle.std.proofs.lemmas.Result.{err_from_is_err_and}
use Rattle.sz_tree.specs.View.{program_of}
use Rattle.szl.proofs.AnswerLemmas.{check_unread, check_fails, check_passes}
use Rattle.szl.proofs.answer.check_text.Goals as goal

-- the text has no tree
pub returns-in_err-tree : goal.returns-in_err-tree
returns-in_err-tree c =
    let p = err_from_is_err_and c.from_residual.result c.from_residual.ensures.1 in
    record { value = rw (p.1, p.2) (check_unread c.args.types.now c.args.text.now c.in_err-tree.field-0.0 c.in_err-tree.ensures.refused) }

-- the tree is refused
pub returns-in_err-checked : goal.returns-in_err-checked
returns-in_err-checked c =
    let p = err_from_is_err_and c.from_residual-in_err-checked.result c.from_residual-in_err-checked.ensures.1 in
    record {
      value = rw (p.1, p.2) (check_fails c.args.types.now c.args.text.now (program_of c.in_ok-tree.tree) c.in_err-checked.field-0.0
          c.requires.short c.in_ok-tree.ensures.found c.in_err-checked.ensures.refused);
    }

-- nothing is refused
pub returns : goal.returns
returns c = record {
  value = check_passes c.args.types.now c.args.text.now (program_of c.in_ok-tree.tree) _ _ c.requires.short
      c.in_ok-tree.ensures.found c.in_ok-checked.ensures.found (search rules);
}
