-- Each turn appends the parts of one expression, or of a key and a value.
use Rattle.std.proofs.Common.{◌∙◌, map, ap, refl, arith}
use Rattle.std.proofs.lemmas.Result.{on_ok_weaker}
use Rattle.sz_tree.specs.View.{tree_of}
use Rattle.sz_tree.proofs.RowLemmas.{tree_of_call, tree_of_list, tree_of_map}
use Rattle.sz_quant.specs.Seen.{seen_ref}
use Rattle.sz_quant.proofs.TurnLemmas.{parts_go, parts_end, pair_parts_go, pair_parts_end, added, lent}
use Rattle.sz_quant.proofs.parts.+parts.Goals as goal

pub add_all_parts-loop-tree-preserved : goal.add_all_parts-loop-tree-preserved
add_all_parts-loop-tree-preserved t c =
    parts_go (map seen_ref c.loop-tree.made.items) _ _ c.args.trees.now c.loop-tree.tree-index c.tree-item.result
    (omega arith) c.tree-item.is c.in_ok-add_parts.ensures.ok c.loop-tree.invariant

pub add_all_parts-returns : goal.add_all_parts-returns
add_all_parts-returns t c = record {
  ok = parts_end _ _ c.args.trees.now c.loop-tree.tree-index (omega arith) c.loop-tree.invariant;
}

pub add_pair_parts-loop-pair-preserved : goal.add_pair_parts-loop-pair-preserved
add_pair_parts-loop-pair-preserved t c =
    pair_parts_go (map seen_ref c.loop-pair.made.items) _ _ _
    c.args.pairs.now c.loop-pair.pair-index c.pair-item.result (omega arith) c.pair-item.is
    c.in_ok-add_parts.ensures.ok c.in_ok-add_parts-2.ensures.ok c.loop-pair.invariant

pub add_pair_parts-returns : goal.add_pair_parts-returns
add_pair_parts-returns t c = record {
  ok = pair_parts_end _ _ c.args.pairs.now c.loop-pair.pair-index (omega arith) c.loop-pair.invariant;
}

-- ---- expressions whose parts stand in a vector

pub add_parts-returns-in-Call : goal.add_parts-returns-in-Call
add_parts-returns-in-Call t c = record {
  ok = on_ok_weaker c.add_all_parts.result
      (λ more. added _ _ _ _ c.args.tree.now _ (lent _ _ c.args.tree c.in_ok-push.ensures.items)
      (rw c.as_slice.ensures.value at more)
      (ap tree_of c.in-Call.is ∙ tree_of_call _ c.in-Call.items) refl) c.add_all_parts.ensures.ok;
}

pub add_parts-returns-in-List : goal.add_parts-returns-in-List
add_parts-returns-in-List t c = record {
  ok = on_ok_weaker c.add_all_parts-in-List.result
      (λ more. added _ _ _ _ c.args.tree.now _ (lent _ _ c.args.tree c.in_ok-push.ensures.items)
      (rw c.as_slice-in-List.ensures.value at more)
      (ap tree_of c.in-List.is ∙ tree_of_list _ c.in-List.items) refl) c.add_all_parts-in-List.ensures.ok;
}

pub add_parts-returns-in-Map : goal.add_parts-returns-in-Map
add_parts-returns-in-Map t c = record {
  ok = on_ok_weaker c.add_pair_parts.result
      (λ more. added _ _ _ _ c.args.tree.now _ (lent _ _ c.args.tree c.in_ok-push.ensures.items)
      (rw c.as_slice-in-Map.ensures.value at more)
      (ap tree_of c.in-Map.is ∙ tree_of_map _ c.in-Map.pairs) refl) c.add_pair_parts.ensures.ok;
}
