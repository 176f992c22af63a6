use Rattle.std.proofs.Common.{◌≡◌, Some, map, sym, ap, subst, ◌∙◌, arith}
use Rattle.std.proofs.lemmas.Result.{err_from_is_err_and}
use Rattle.sz_core.specs.View.{node_of, stm_of as core_stm_of}
use Rattle.sz_tree.specs.Statements.{stms_of}
use Rattle.sz_tree.specs.View.{tree_of, stm_of}
use Rattle.sz_check_names.specs.Outcome.{Stops, Judges}
use Rattle.sz_tree.proofs.RowLemmas.{stm_of_block}
use Rattle.sz_check_rules.specs.JudgingStatements.{judge_stm}
use Rattle.sz_check_names.specs.Knowledge.{Knowledge, scene_of}
use Rattle.sz_check.specs.Later.{around_of, after_of, judge_else}
use Rattle.sz_check_names.proofs.TurnLemmas.{map_push, judged_as}
use Rattle.sz_check.specs.Quantified.{variable_of}
use Rattle.sz_check.proofs.WhenLemmas.{body_stops, body_made}
use Rattle.sz_check.proofs.StatementLoops.{stms_fail, stms_go, stms_end}
use Rattle.sz_check.proofs.StatementParts.{inside_made, inside_stops, block_made, block_stops, for_first_stops, for_turns_stop, for_made}
use Rattle.sz_check.proofs.StatementParts.{else_test_stops, else_part_stops, else_goes_on, other_stops}
use borrow.Enum.Known.{ValuesAt}
use borrow.Enum.Total.{values_d, values_d_at}
use Rattle.sz_tree.specs.contracts.stmt.Stmt.{enum}
use Rattle.sz_check.proofs.stmt.+stmt.Goals as goal

pub judge_stms-returns-in_err-statement-clause-value : goal.judge_stms-returns-in_err-statement-clause-value
judge_stms-returns-in_err-statement-clause-value t c =
    let p = err_from_is_err_and c.from_residual.result c.from_residual.ensures.1 in
    rw (p.1, p.2) (stms_fail (map core_stm_of c.loop-tree.statements.items) (around_of c.args.around)
    (scene_of c.loop-tree.known) c.args.trees.now c.loop-tree.tree-index c.tree-item.result c.in_err-statement.field-0.0 _ (omega arith) c.tree-item.is
    c.in_err-statement.ensures.value c.loop-tree.invariant.judged)

pub judge_stms-loop-tree-preserved : goal.judge_stms-loop-tree-preserved
judge_stms-loop-tree-preserved t c = record {
  judged = rw (c.in_ok-push.ensures.items, map_push core_stm_of c.loop-tree.statements.items c.in_ok-statement.statement)
      (stms_go (map core_stm_of c.loop-tree.statements.items) (around_of c.args.around)
      (scene_of c.loop-tree.known) c.args.trees.now c.loop-tree.tree-index c.tree-item.result _ _ (omega arith) c.tree-item.is
      c.in_ok-statement.ensures.value c.loop-tree.invariant.judged);
  outside = c.in_ok-statement.ensures.outside ∙ c.loop-tree.invariant.outside;
}

pub judge_stms-returns-clause-value : goal.judge_stms-returns-clause-value
judge_stms-returns-clause-value t c = stms_end (map core_stm_of c.loop-tree.statements.items) (around_of c.args.around)
    (scene_of c.loop-tree.known) c.args.trees.now c.loop-tree.tree-index _ (omega arith) c.loop-tree.invariant.judged

-- ---- statements in a block of their own

pub judge_inside-returns-in_err-statement-clause-value : goal.judge_inside-returns-in_err-statement-clause-value
judge_inside-returns-in_err-statement-clause-value t c =
    let p = err_from_is_err_and c.from_residual-in_err-statement.result c.from_residual-in_err-statement.ensures.1 in
    rw (p.1, p.2)
    (inside_stops (around_of c.args.around) c.args.known.now c.open.new.self
    (stm_of c.args.tree.now) c.in_err-statement.field-0.0 c.in_ok-open.ensures.value c.in_err-statement.ensures.value)

pub judge_inside-returns-clause-value : goal.judge_inside-returns-clause-value
judge_inside-returns-clause-value t c = rw c.in_ok-boxed.ensures.value
    (inside_made (around_of c.args.around) c.args.known.now c.open.new.self c.judge_stm.new.known c.close.new.self (stm_of c.args.tree.now)
    (core_stm_of c.in_ok-statement.statement)
    c.in_ok-open.ensures.value c.in_ok-statement.ensures.value
    (c.close.ensures.value c.args.known.now (c.in_ok-statement.ensures.outside ∙ ap (λ (k : Knowledge). k.outside) c.in_ok-open.ensures.value)))

pub judge_inside-returns-clause-outside : goal.judge_inside-returns-clause-outside
judge_inside-returns-clause-outside t c =
    ap (λ (k : Knowledge). k.outside) (c.close.ensures.value c.args.known.now
    (c.in_ok-statement.ensures.outside ∙ ap (λ (k : Knowledge). k.outside) c.in_ok-open.ensures.value))

pub judge_block-returns-in_err-statements-clause-value : goal.judge_block-returns-in_err-statements-clause-value
judge_block-returns-in_err-statements-clause-value t c =
    let p = err_from_is_err_and c.from_residual-in_err-statements.result c.from_residual-in_err-statements.ensures.1 in
    rw (p.1, p.2)
    (block_stops (around_of c.args.around) c.args.known.now c.open.new.self c.args.place
    (stms_of (map stm_of c.args.trees.now)) c.in_err-statements.field-0.0 c.in_ok-open.ensures.value c.in_err-statements.ensures.value)

pub judge_block-returns-clause-value : goal.judge_block-returns-clause-value
judge_block-returns-clause-value t c = rw c.block.ensures.value
    (block_made (around_of c.args.around) c.args.known.now c.open.new.self c.judge_stms.new.known c.close.new.self c.args.place
    (stms_of (map stm_of c.args.trees.now)) _
    c.in_ok-open.ensures.value c.in_ok-statements.ensures.value
    (c.close.ensures.value c.args.known.now (c.in_ok-statements.ensures.outside ∙ ap (λ (k : Knowledge). k.outside) c.in_ok-open.ensures.value)))

pub judge_block-returns-clause-outside : goal.judge_block-returns-clause-outside
judge_block-returns-clause-outside t c =
    ap (λ (k : Knowledge). k.outside) (c.close.ensures.value c.args.known.now
    (c.in_ok-statements.ensures.outside ∙ ap (λ (k : Knowledge). k.outside) c.in_ok-open.ensures.value))

pub judge_stm-returns-in-Block-clause-value : goal.judge_stm-returns-in-Block-clause-value
judge_stm-returns-in-Block-clause-value t c =
    judged_as (λ s. after_of c.judge_block.new.known s) c.judge_block.result (judge_stm (around_of c.args.around) (scene_of c.args.known.now)) _ _
    (ap stm_of c.in-Block.is ∙ stm_of_block _ _) (rw c.as_slice.ensures.value at c.judge_block.ensures.value)

pub judge_for-returns-in_err-start-clause-value : goal.judge_for-returns-in_err-start-clause-value
judge_for-returns-in_err-start-clause-value t c =
    let p = err_from_is_err_and c.from_residual-in_err-start.result c.from_residual-in_err-start.ensures.1 in
    rw (p.1, p.2)
    (for_first_stops (around_of c.args.around) c.args.known.now c.open.new.self c.open.new.self c.args.place _ _ _ _ c.in_err-start.field-0.0
    c.in_ok-open.ensures.value c.in_err-start.ensures.value)

pub judge_for-returns-in_err-turns-clause-value : goal.judge_for-returns-in_err-turns-clause-value
judge_for-returns-in_err-turns-clause-value t c =
    let p = err_from_is_err_and c.from_residual-in_err-turns.result c.from_residual-in_err-turns.ensures.1 in
    rw (p.1, p.2)
    (for_turns_stop (around_of c.args.around) c.args.known.now c.open.new.self c.judge_first.new.known c.args.place _ _ _ _ _ c.in_err-turns.field-0.0
    c.in_ok-open.ensures.value c.in_ok-start.ensures.value c.in_err-turns.ensures.value)

pub judge_for-returns-clause-value : goal.judge_for-returns-clause-value
judge_for-returns-clause-value t c = rw (c.in_ok-joined.ensures.value, c.in_ok-front.ensures.value)
    (for_made (around_of c.args.around) c.args.known.now c.open.new.self c.judge_first.new.known c.args.place _ _ _ _ c.judge_turns.new.known
    c.close.new.self
    (core_stm_of c.in_ok-start.start) (core_stm_of c.in_ok-turns.turns) c.in_ok-open.ensures.value c.in_ok-start.ensures.value c.in_ok-turns.ensures.value
    (c.close.ensures.value c.args.known.now (c.in_ok-turns.ensures.outside ∙ c.judge_first.ensures.outside
    ∙ ap (λ (k : Knowledge). k.outside) c.in_ok-open.ensures.value)))

pub judge_for-returns-clause-outside : goal.judge_for-returns-clause-outside
judge_for-returns-clause-outside t c =
    ap (λ (k : Knowledge). k.outside)
    (c.close.ensures.value c.args.known.now (c.in_ok-turns.ensures.outside ∙ c.judge_first.ensures.outside
    ∙ ap (λ (k : Knowledge). k.outside) c.in_ok-open.ensures.value))

-- ---- the statement inside a `when`

pub judge_bound_body-returns-in_err-statement-clause-value : goal.judge_bound_body-returns-in_err-statement-clause-value
judge_bound_body-returns-in_err-statement-clause-value t c =
    let p = err_from_is_err_and c.from_residual-in_err-statement.result c.from_residual-in_err-statement.ensures.1 in
    rw (p.1, p.2)
    (body_stops (around_of c.args.around) _ c.args.known.now c.judge_bound.new.known (map variable_of c.args.variables.now) (stm_of c.args.tree.now)
    (ap around_of c.out_of_loops.ensures.value) c.in_ok-judge_bound.ensures.value c.in_err-statement.field-0.0 c.in_err-statement.ensures.value)

pub judge_bound_body-returns-clause-value : goal.judge_bound_body-returns-clause-value
judge_bound_body-returns-clause-value t c =
    body_made (around_of c.args.around) _ c.args.known.now c.judge_bound.new.known (map variable_of c.args.variables.now) (stm_of c.args.tree.now)
    (ap around_of c.out_of_loops.ensures.value) c.in_ok-judge_bound.ensures.value c.judge_inside.new.known c.close.new.self
    (core_stm_of c.in_ok-statement.statement.value) c.in_ok-statement.ensures.value
    (c.close.ensures.value c.args.known.now (c.in_ok-statement.ensures.outside ∙ c.in_ok-judge_bound.ensures.outside))

pub judge_bound_body-returns-clause-outside : goal.judge_bound_body-returns-clause-outside
judge_bound_body-returns-clause-outside t c =
    ap (λ (k : Knowledge). k.outside) (c.close.ensures.value c.args.known.now (c.in_ok-statement.ensures.outside ∙ c.in_ok-judge_bound.ensures.outside))

-- ---- an `if` with another part

pub judge_else-returns-in_err-other-clause-value : goal.judge_else-returns-in_err-other-clause-value
judge_else-returns-in_err-other-clause-value t c =
    let p = err_from_is_err_and c.from_residual.result c.from_residual.ensures.1 in
    rw (p.1, p.2)
    (other_stops (around_of c.args.around) (scene_of c.args.known.now) c.args.place (tree_of c.args.condition.now) (node_of c.args.node)
    (core_stm_of c.args.taken.value) (stm_of c.args.other.now) c.in_err-other.field-0.0 c.in_err-other.ensures.value)

pub judge_stm-returns-in_err-node-in-If-default-default-default-Some-clause-value :
    goal.judge_stm-returns-in_err-node-in-If-default-default-default-Some-clause-value
judge_stm-returns-in_err-node-in-If-default-default-default-Some-clause-value t c =
    let arm = c.in-If-default-default-default-Some in
    let p = err_from_is_err_and c.from_residual.result c.from_residual.ensures.1 in
    let e = c.in_err-node-in-If-default-default-default-Some.field-0.0 in
    let other : arm.field-3 ≡ Some arm.other =
    sym (ap (λ (v : ValuesAt enum.parts 9). v.1.1.1.0) (ap (values_d enum 9 _) arm.is ∙ values_d_at enum 9 _ _)) ∙ arm.field-3-is in
    let is = rw other at arm.is in
    rw (p.1, p.2) (subst (λ (s : _). Stops e (judge_stm (around_of c.args.around) (scene_of c.args.known.now) (stm_of s))) (sym is)
    (else_test_stops (around_of c.args.around) (scene_of c.args.known.now) arm.place (tree_of arm.test) (stm_of arm.taken.value)
    (stm_of arm.other.value) e c.in_err-node-in-If-default-default-default-Some.ensures.value))

pub judge_stm-returns-in_err-taken-in-If-default-default-default-Some-clause-value :
    goal.judge_stm-returns-in_err-taken-in-If-default-default-default-Some-clause-value
judge_stm-returns-in_err-taken-in-If-default-default-default-Some-clause-value t c =
    let arm = c.in-If-default-default-default-Some in
    let r = c.from_residual-in_err-taken-in-If-default-default-default-Some in
    let p = err_from_is_err_and r.result r.ensures.1 in
    let e = c.in_err-taken-in-If-default-default-default-Some.field-0.0 in
    let other : arm.field-3 ≡ Some arm.other =
    sym (ap (λ (v : ValuesAt enum.parts 9). v.1.1.1.0) (ap (values_d enum 9 _) arm.is ∙ values_d_at enum 9 _ _)) ∙ arm.field-3-is in
    let is = rw other at arm.is in
    rw (p.1, p.2) (subst (λ (s : _). Stops e (judge_stm (around_of c.args.around) (scene_of c.args.known.now) (stm_of s))) (sym is)
    (else_part_stops (around_of c.args.around) (scene_of c.args.known.now) arm.place (tree_of arm.test) (stm_of arm.taken.value)
    (stm_of arm.other.value) (node_of c.in_ok-node-in-If-default-default-default-Some.node) e
    c.in_ok-node-in-If-default-default-default-Some.ensures.value
    (rw c.deref-in-If-default-default-default-Some.ensures at c.in_err-taken-in-If-default-default-default-Some.ensures.value)))

pub judge_stm-returns-in_ok-taken-in-If-default-default-default-Some-clause-value :
    goal.judge_stm-returns-in_ok-taken-in-If-default-default-default-Some-clause-value
judge_stm-returns-in_ok-taken-in-If-default-default-default-Some-clause-value t c =
    let arm = c.in-If-default-default-default-Some in
    let other : arm.field-3 ≡ Some arm.other =
    sym (ap (λ (v : ValuesAt enum.parts 9). v.1.1.1.0) (ap (values_d enum 9 _) arm.is ∙ values_d_at enum 9 _ _)) ∙ arm.field-3-is in
    let is = rw other at arm.is in
    let goes = else_goes_on (around_of c.args.around) (scene_of c.args.known.now) arm.place (tree_of arm.test) (stm_of arm.taken.value)
    (stm_of arm.other.value) (node_of c.in_ok-node-in-If-default-default-default-Some.node)
    (after_of c.judge_inside.new.known c.in_ok-taken-in-If-default-default-default-Some.taken.value)
    c.in_ok-node-in-If-default-default-default-Some.ensures.value
    (rw c.deref-in-If-default-default-default-Some.ensures at c.in_ok-taken-in-If-default-default-default-Some.ensures.value) in
    let judged = subst (λ (u : _). Judges (λ s. after_of c.judge_else.new.known s) c.judge_else.result
    (judge_else (around_of c.args.around) (scene_of c.judge_inside.new.known) arm.place (tree_of arm.test)
    (node_of c.in_ok-node-in-If-default-default-default-Some.node) (core_stm_of c.in_ok-taken-in-If-default-default-default-Some.taken.value) (stm_of u)))
    c.deref-in-If-default-default-default-Some-2.ensures c.judge_else.ensures.value in
    subst (λ (tree : _). Judges (λ s. after_of c.judge_else.new.known s) c.judge_else.result
    (judge_stm (around_of c.args.around) (scene_of c.args.known.now) (stm_of tree))) (sym is)
    (subst (λ j. Judges (λ s. after_of c.judge_else.new.known s) c.judge_else.result j) (sym goes)
    (rw arm.field-3-is at judged))
