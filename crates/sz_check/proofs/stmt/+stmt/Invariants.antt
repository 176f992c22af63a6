-- What is judged, and the judgement of what is after it, are the judgement of all; what is outside the innermost block stays.
use Rattle.std.proofs.Common.{◌≡◌, map, drop}
use Rattle.sz_tree.specs.Statements.{stms_of}
use Rattle.sz_tree.specs.View.{stm_of}
use Rattle.sz_core.specs.View.{stm_of as core_stm_of}
use Rattle.sz_check_rules.specs.JudgingStatements.{judge_stms}
use Rattle.sz_check_names.specs.Knowledge.{scene_of}
use Rattle.sz_check_names.specs.Turns.{following}
use Rattle.sz_check.specs.Later.{in_front, around_of}
use Rattle.sz_check.proofs.stmt.+stmt.Given as goal

abbrev pub invariant-judge_stms-loop-tree : goal.invariant-judge_stms-loop-tree
invariant-judge_stms-loop-tree l = record {
  judged : following in_front (map core_stm_of l.statements.items)
      (judge_stms (around_of l.around) (scene_of l.known) (stms_of (map stm_of (drop l.tree-index l.trees))))
      ≡ judge_stms (around_of l.around) (scene_of l.fn.known) (stms_of (map stm_of l.trees));
  outside : l.known.outside ≡ l.fn.known.outside;
}
