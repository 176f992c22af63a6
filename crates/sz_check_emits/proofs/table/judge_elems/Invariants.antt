-- What is judged, and the judgement of what is after it, are the judgement of all.
use Rattle.std.proofs.Common.{◌≡◌, map, drop}
use Rattle.sz_types.specs.Seen.{seen}
use Rattle.sz_tree.specs.View.{elem_of}
use Rattle.sz_check_rules.specs.JudgingPrograms.{judge_elems}
use Rattle.sz_check_names.specs.Knowledge.{blocks_of}
use Rattle.sz_check_names.specs.Turns.{following}
use Rattle.sz_check_emits.specs.Tabling.{with_type}
use Rattle.sz_check_emits.proofs.table.judge_elems.Given as goal

abbrev pub invariant-loop-tree : goal.invariant-loop-tree
invariant-loop-tree l =
    following with_type (map seen l.types.items)
    (judge_elems (blocks_of l.known) (map elem_of (drop l.tree-index l.trees)))
    ≡ judge_elems (blocks_of l.known) (map elem_of l.trees)
