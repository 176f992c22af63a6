use Rattle.std.proofs.Common.{sym, ap, ◌∙◌, arith}
use Rattle.sz_check_names.specs.Knowledge.{blocks_of}
use Rattle.sz_check_rules.specs.EmittingTrees.{emits_by}
use Rattle.sz_check_emits.specs.Hidden.{hidden_of}
use Rattle.sz_tree.proofs.RowLemmas.{tree_of_call, tree_of_list, tree_of_map}
use Rattle.sz_tree.specs.View.{tree_of}
use Rattle.sz_check_emits.proofs.EmitLemmas.{call_emits, list_emits, map_emits}
use Rattle.sz_check_emits.proofs.EmitLemmas.{exps_turn, pairs_turn, holds_whole, rest_decides, first_holds, second_decides}
use Rattle.sz_check_emits.proofs.emitting.+emits.Goals as goal
use Rattle.sz_check_emits.proofs.emitting.+emits.Goals.{pairs_emit-then-exp_emits-via-then-exp_emits}
use Rattle.sz_check_emits.proofs.emitting.+emits.Goals.{pairs_emit-then-exp_emits-via-else-exp_emits+then-exp_emits-2}

pub exps_emit-returns-then-exp_emits : goal.exps_emit-returns-then-exp_emits
exps_emit-returns-then-exp_emits t c =
    let turn = exps_turn (emits_by (blocks_of c.args.known.now))
    (hidden_of c.args.hidden.now) c.args.trees.now c.loop-tree.tree-index c.tree-item.result
    (omega arith) c.tree-item.is in
    record {
      value =
          holds_whole _ _ _ (sym turn ∙ c.loop-tree.invariant) (sym c.exp_emits.ensures.value ∙ c.if-exp_emits.true);
    }

pub exps_emit-loop-tree-preserved : goal.exps_emit-loop-tree-preserved
exps_emit-loop-tree-preserved t c =
    let turn = exps_turn (emits_by (blocks_of c.args.known.now))
    (hidden_of c.args.hidden.now) c.args.trees.now c.loop-tree.tree-index c.tree-item.result
    (omega arith) c.tree-item.is in
    rest_decides _ _ _ (sym turn ∙ c.loop-tree.invariant) (sym c.exp_emits.ensures.value ∙ c.if-exp_emits.false)

pub pairs_emit-returns-then-exp_emits : goal.pairs_emit-returns-then-exp_emits
pairs_emit-returns-then-exp_emits t c =
    let turn = pairs_turn (emits_by (blocks_of c.args.known.now))
    (hidden_of c.args.hidden.now) c.args.pairs.now c.loop-pair.pair-index c.pair-item.result
    (omega arith) c.pair-item.is in
    elim c.then-exp_emits.branch [
      | pairs_emit-then-exp_emits-via-then-exp_emits w ↦ record {
        value = holds_whole _ _ _ (sym turn ∙ c.loop-pair.invariant)
            (first_holds _ _ (sym c.exp_emits.ensures.value ∙ w.if-exp_emits.true));
      }
      | pairs_emit-then-exp_emits-via-else-exp_emits+then-exp_emits-2 w ↦ record {
        value = holds_whole _ _ _ (sym turn ∙ c.loop-pair.invariant)
            (second_decides _ _ _ (sym c.exp_emits.ensures.value ∙ w.if-exp_emits.false)
            (sym w.exp_emits-else-exp_emits.ensures.value ∙ w.if-exp_emits-2.true));
      }
    ]

pub pairs_emit-loop-pair-preserved : goal.pairs_emit-loop-pair-preserved
pairs_emit-loop-pair-preserved t c =
    let turn = pairs_turn (emits_by (blocks_of c.args.known.now))
    (hidden_of c.args.hidden.now) c.args.pairs.now c.loop-pair.pair-index c.pair-item.result
    (omega arith) c.pair-item.is in
    rest_decides _ _ _ (sym turn ∙ c.loop-pair.invariant)
    (second_decides _ _ _ (sym c.exp_emits.ensures.value ∙ c.if-exp_emits.false)
    (sym c.exp_emits-else-exp_emits.ensures.value ∙ c.if-exp_emits-2.false))

pub exp_emits-returns-else-calls : goal.exp_emits-returns-else-calls
exp_emits-returns-else-calls t c = record {
  value = c.exps_emit.ensures.value
      ∙ call_emits (emits_by (blocks_of c.args.known.now))
      (hidden_of c.args.hidden.now) c.args.tree.now c.in-Call.name c.in-Call.items
      c.as_slice.result.now c.calls.result (ap tree_of c.in-Call.is ∙ tree_of_call _ _)
      c.as_slice.ensures.value c.calls.ensures.value c.if-calls.false;
}

pub exp_emits-returns-in-List : goal.exp_emits-returns-in-List
exp_emits-returns-in-List t c = record {
  value = c.exps_emit-in-List.ensures.value
      ∙ list_emits (emits_by (blocks_of c.args.known.now))
      (hidden_of c.args.hidden.now) c.args.tree.now c.in-List.field-0 c.in-List.items
      c.as_slice-in-List.result.now (ap tree_of c.in-List.is ∙ tree_of_list _ _) c.as_slice-in-List.ensures.value;
}

pub exp_emits-returns-in-Map : goal.exp_emits-returns-in-Map
exp_emits-returns-in-Map t c = record {
  value = c.pairs_emit.ensures.value
      ∙ map_emits (emits_by (blocks_of c.args.known.now))
      (hidden_of c.args.hidden.now) c.args.tree.now c.in-Map.field-0 c.in-Map.pairs
      c.as_slice-in-Map.result.now (ap tree_of c.in-Map.is ∙ tree_of_map _ _) c.as_slice-in-Map.ensures.value;
}
