use Rattle.std.proofs.Common.{map, arith}
use Rattle.std.proofs.lemmas.Result.{err_from_is_err_and}
use Rattle.sz_core.specs.View.{item_of}
use Rattle.sz_check.specs.Top.{top_of}
use Rattle.sz_check.proofs.ProgramLemmas.{all_fails, all_go, all_end}
use Rattle.sz_check.proofs.program.judge_all.Goals as goal

pub returns-in_err-found : goal.returns-in_err-found
returns-in_err-found c =
    let p = err_from_is_err_and c.from_residual.result c.from_residual.ensures.1 in
    record {
      value = rw (p.1, p.2) (all_fails (map item_of c.loop-tree.items.items)
          (top_of c.loop-tree.top) c.args.trees.now c.loop-tree.tree-index
          c.tree-item.result c.in_err-found.field-0.0 _
          (omega arith) c.tree-item.is c.in_err-found.ensures.value c.loop-tree.invariant);
    }

pub loop-tree-preserved : goal.loop-tree-preserved
loop-tree-preserved c =
    rw c.in_ok-push_found.ensures.value
    (all_go (map item_of c.loop-tree.items.items)
    (top_of c.loop-tree.top) c.args.trees.now c.loop-tree.tree-index c.tree-item.result _ _
    (omega arith) c.tree-item.is c.in_ok-found.ensures.value c.loop-tree.invariant)

pub returns : goal.returns
returns c = record {
  value = all_end (map item_of c.loop-tree.items.items)
      (top_of c.loop-tree.top) c.args.trees.now c.loop-tree.tree-index _ (omega arith) c.loop-tree.invariant;
}
