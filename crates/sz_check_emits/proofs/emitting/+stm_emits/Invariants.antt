-- What is found by now, and one of the statements that are left, where these names are hidden, decide together; what
-- was hidden stays in front.
use Rattle.std.proofs.Common.{◌≡◌, ◌++◌, ◌||◌, ℕ, List, map, drop}
use Rattle.sz_tree.specs.Statements.{stms_of}
use Rattle.sz_tree.specs.View.{stm_of}
use Rattle.sz_check_names.specs.Knowledge.{blocks_of}
use Rattle.sz_check_rules.specs.EmittingTrees.{emits_by, stms_emit}
use Rattle.sz_check_emits.specs.Hidden.{hidden_of}
use Rattle.sz_check_emits.proofs.emitting.+stm_emits.Given as goal

abbrev pub invariant-stms_emit-loop-tree : goal.invariant-stms_emit-loop-tree
invariant-stms_emit-loop-tree l = record {
  found : (l.emits || stms_emit (emits_by (blocks_of l.known)) (hidden_of l.hidden.items)
      (stms_of (map stm_of (drop l.tree-index l.trees))))
      ≡ stms_emit (emits_by (blocks_of l.known)) (hidden_of l.fn.hidden.items) (stms_of (map stm_of l.trees));
  front : (more : List (List ℕ)) × (hidden_of l.hidden.items ≡ hidden_of l.fn.hidden.items ++ more);
}
