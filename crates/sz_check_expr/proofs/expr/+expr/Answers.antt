use Rattle.std.proofs.Common.{map, ap, sym, subst, ◌∙◌, arith}
use Rattle.std.proofs.lemmas.Result.{err_from_is_err_and}
use Rattle.sz_core.specs.View.{node_of, pairing_of}
use Rattle.sz_check_expr.specs.Asking.{asks_of, asked_of}
use Rattle.sz_check_names.specs.Knowledge.{blocks_for}
use Rattle.sz_check_names.specs.Sites.{may_emit}
use Rattle.sz_check_names.specs.Outcome.{Stops}
use Rattle.sz_tree.specs.View.{tree_of}
use Rattle.sz_tree.proofs.RowLemmas.{tree_of_call, tree_of_list, tree_of_map}
use Rattle.sz_check_rules.specs.JudgingExpressions.{judge_exp}
use Rattle.sz_check_names.proofs.TurnLemmas.{map_push, judged_as}
use Rattle.sz_check_expr.proofs.ExpLemmas.{slice_stops, exps_fails, exps_goes, exps_ends, pairs_fails, pairs_goes, pairs_ends}
use Rattle.sz_check_expr.proofs.expr.+expr.Goals as goal

pub judge_exps-returns-in_err-node : goal.judge_exps-returns-in_err-node
judge_exps-returns-in_err-node t c =
    let p = err_from_is_err_and c.from_residual.result c.from_residual.ensures.1 in
    let blocks = blocks_for c.args.known.now c.args.site in
    let front = map node_of c.loop-tree.nodes.items in
    record {
      value = rw (p.1, p.2) (exps_fails blocks (may_emit c.args.site) front
          (asks_of c.loop-tree.asks) c.args.trees.now c.loop-tree.tree-index
          c.tree-item.result c.in_err-node.field-0.0 _ (omega arith) c.tree-item.is
          (rw c.first.ensures.value at c.in_err-node.ensures.value) c.loop-tree.invariant);
    }

pub judge_exps-loop-tree-preserved : goal.judge_exps-loop-tree-preserved
judge_exps-loop-tree-preserved t c =
    let blocks = blocks_for c.args.known.now c.args.site in
    let front = map node_of c.loop-tree.nodes.items in
    rw (c.following-asks.ensures.value, c.in_ok-push.ensures.items, map_push node_of c.loop-tree.nodes.items c.in_ok-node.node)
    (exps_goes blocks (may_emit c.args.site) front (asks_of c.loop-tree.asks) c.args.trees.now c.loop-tree.tree-index c.tree-item.result
    (node_of c.in_ok-node.node) _ (omega arith) c.tree-item.is
    (rw c.first.ensures.value at c.in_ok-node.ensures.value) c.loop-tree.invariant)

pub judge_exps-returns : goal.judge_exps-returns
judge_exps-returns t c =
    let blocks = blocks_for c.args.known.now c.args.site in
    let front = map node_of c.loop-tree.nodes.items in
    record {
      value = exps_ends blocks (may_emit c.args.site) front
          (asks_of c.loop-tree.asks) c.args.trees.now c.loop-tree.tree-index _ (omega arith)
          c.loop-tree.invariant;
    }

-- a slice whose last bound is refused
pub judge_exp-returns-in_err-last-in-Slice : goal.judge_exp-returns-in_err-last-in-Slice
judge_exp-returns-in_err-last-in-Slice t c =
    let p = err_from_is_err_and c.from_residual-in_err-last-in-Slice.result c.from_residual-in_err-last-in-Slice.ensures.1 in
    let blocks = blocks_for c.args.known.now c.args.site in
    let stopped = slice_stops blocks (may_emit c.args.site)
    (asked_of c.args.asked) c.in-Slice.place (tree_of c.in-Slice.part.value) (tree_of c.in-Slice.from.value)
    (tree_of c.in-Slice.to.value) (node_of c.in_ok-node-in-Slice.node.value)
    (node_of c.in_ok-first-in-Slice.first.value) c.in_err-last-in-Slice.field-0.0
    (rw c.deref-in-Slice.ensures at c.in_ok-node-in-Slice.ensures.value)
    (rw c.deref-in-Slice-2.ensures at c.in_ok-first-in-Slice.ensures.value)
    (rw c.deref-in-Slice-3.ensures at c.in_err-last-in-Slice.ensures.value) in
    record {
      value = rw (p.1, p.2)
          (subst (λ (e : _). Stops c.in_err-last-in-Slice.field-0.0
          (judge_exp blocks (may_emit c.args.site) (asked_of c.args.asked) (tree_of e)))
          (sym c.in-Slice.is) stopped);
    }

-- ---- expressions whose parts stand in a vector

pub judge_exp-returns-in-Call : goal.judge_exp-returns-in-Call
judge_exp-returns-in-Call t c =
    let judge = judge_exp (blocks_for c.args.known.now c.args.site) (may_emit c.args.site) (asked_of c.args.asked) in
    record {
      value = judged_as node_of c.judge_call.result judge _ _ (ap tree_of c.in-Call.is ∙ tree_of_call _ _)
          (rw c.as_slice.ensures.value at (c.judge_call.ensures.value (asked_of c.args.asked)));
    }

pub judge_exp-returns-in-List : goal.judge_exp-returns-in-List
judge_exp-returns-in-List t c =
    let judge = judge_exp (blocks_for c.args.known.now c.args.site) (may_emit c.args.site) (asked_of c.args.asked) in
    record {
      value = judged_as node_of c.judge_list.result judge _ _ (ap tree_of c.in-List.is ∙ tree_of_list _ _)
          (rw c.as_slice-in-List.ensures.value at c.judge_list.ensures.value);
    }

pub judge_exp-returns-in-Map : goal.judge_exp-returns-in-Map
judge_exp-returns-in-Map t c =
    let judge = judge_exp (blocks_for c.args.known.now c.args.site) (may_emit c.args.site) (asked_of c.args.asked) in
    record {
      value = judged_as node_of c.judge_mapping.result judge _ _ (ap tree_of c.in-Map.is ∙ tree_of_map _ _)
          (rw c.as_slice-in-Map.ensures.value at c.judge_mapping.ensures.value);
    }

pub judge_pairs-returns-in_err-pair : goal.judge_pairs-returns-in_err-pair
judge_pairs-returns-in_err-pair t c =
    let p = err_from_is_err_and c.from_residual.result c.from_residual.ensures.1 in
    let blocks = blocks_for c.args.known.now c.args.site in
    let front = map pairing_of c.loop-tree.nodes.items in
    record {
      value = rw (p.1, p.2) (pairs_fails blocks (may_emit c.args.site) front (asked_of c.args.key) (asked_of c.args.value) c.args.trees.now
          c.loop-tree.tree-index c.tree-item.result c.in_err-pair.field-0.0 _ (omega arith) c.tree-item.is
          c.in_err-pair.ensures.value c.loop-tree.invariant);
    }

pub judge_pairs-loop-tree-preserved : goal.judge_pairs-loop-tree-preserved
judge_pairs-loop-tree-preserved t c =
    let blocks = blocks_for c.args.known.now c.args.site in
    let front = map pairing_of c.loop-tree.nodes.items in
    rw (c.in_ok-push.ensures.items, map_push pairing_of c.loop-tree.nodes.items c.in_ok-pair.pair)
    (pairs_goes blocks (may_emit c.args.site) front (asked_of c.args.key) (asked_of c.args.value) c.args.trees.now c.loop-tree.tree-index
    c.tree-item.result (pairing_of c.in_ok-pair.pair) _ (omega arith) c.tree-item.is c.in_ok-pair.ensures.value c.loop-tree.invariant)

pub judge_pairs-returns : goal.judge_pairs-returns
judge_pairs-returns t c =
    let blocks = blocks_for c.args.known.now c.args.site in
    let front = map pairing_of c.loop-tree.nodes.items in
    record {
      value = pairs_ends blocks (may_emit c.args.site) front (asked_of c.args.key)
          (asked_of c.args.value) c.args.trees.now c.loop-tree.tree-index
          _ (omega arith) c.loop-tree.invariant;
    }
