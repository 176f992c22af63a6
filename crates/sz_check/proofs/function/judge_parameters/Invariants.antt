-- The parameters that are left, from what is known, are all of them; what is outside the innermost block stays.
use Rattle.std.proofs.Common.{◌≡◌, map, drop}
use Rattle.sz_tree.specs.Types.{params_of}
use Rattle.sz_tree.specs.View.{param_of}
use Rattle.sz_check_rules.specs.JudgingPrograms.{judge_parameters}
use Rattle.sz_check_names.specs.Knowledge.{scene_of}
use Rattle.sz_check.proofs.function.judge_parameters.Given as goal

abbrev pub invariant-loop-tree : goal.invariant-loop-tree
invariant-loop-tree l = record {
  judged : judge_parameters (scene_of l.known) (params_of (map param_of (drop l.tree-index l.trees)))
      ≡ judge_parameters (scene_of l.fn.known) (params_of (map param_of l.trees));
  outside : l.known.outside ≡ l.fn.known.outside;
}
