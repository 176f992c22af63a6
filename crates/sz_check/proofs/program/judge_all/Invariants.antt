-- What is judged, and the judgement of what is after it, are the judgement of all.
use Rattle.std.proofs.Common.{◌≡◌, map, drop}
use Rattle.sz_tree.specs.Statements.{stms_of}
use Rattle.sz_tree.specs.View.{stm_of}
use Rattle.sz_core.specs.View.{item_of}
use Rattle.sz_check_rules.specs.JudgingPrograms.{judge_all}
use Rattle.sz_check.specs.Top.{top_of, with_items}
use Rattle.sz_check.proofs.program.judge_all.Given as goal

abbrev pub invariant-loop-tree : goal.invariant-loop-tree
invariant-loop-tree l =
    with_items (map item_of l.items.items) (judge_all (top_of l.top) (stms_of (map stm_of (drop l.tree-index l.trees))))
    ≡ judge_all (top_of l.fn.top) (stms_of (map stm_of l.trees))
