use Rattle.std.proofs.Common.{sym, ◌∙◌, arith}
use Rattle.std.proofs.lemmas.Result.{err_from_is_err_and}
use Rattle.sz_types.specs.Seen.{seen}
use Rattle.sz_check_names.proofs.TurnLemmas.{stops_then, goes_on}
use Rattle.sz_check_expr.proofs.ListLemmas.{pairs_turn, pairs_over}
use Rattle.sz_check_expr.proofs.agreement.pairs_agree.Goals as goal

pub returns-in_err-agrees : goal.returns-in_err-agrees
returns-in_err-agrees c =
    let p = err_from_is_err_and c.from_residual.result c.from_residual.ensures.1 in
    let turn =
    pairs_turn (seen c.args.key.now)
    (seen c.args.value.now) c.args.trees.now c.args.nodes.now c.loop-i.i c.index-trees-i.result
    c.index-nodes-i.result (omega arith) (omega arith) c.index-trees-i.is c.index-nodes-i.is in
    record {
      value = rw (p.1, p.2)
          (stops_then c.in_err-agrees.field-0.0 _ _ _ c.in_err-agrees.ensures.value (sym turn ∙ c.loop-i.invariant));
    }

pub returns-in_err-agrees-2 : goal.returns-in_err-agrees-2
returns-in_err-agrees-2 c =
    let p = err_from_is_err_and c.from_residual-in_err-agrees-2.result c.from_residual-in_err-agrees-2.ensures.1 in
    let turn =
    pairs_turn (seen c.args.key.now)
    (seen c.args.value.now) c.args.trees.now c.args.nodes.now c.loop-i.i c.index-trees-i.result
    c.index-nodes-i.result (omega arith) (omega arith) c.index-trees-i.is c.index-nodes-i.is in
    record {
      value = rw (p.1, p.2) (stops_then c.in_err-agrees-2.field-0.0 _ _ _ c.in_err-agrees-2.ensures.value
          (goes_on _ _ _ _ c.in_ok-agrees.ensures.value (sym turn ∙ c.loop-i.invariant)));
    }

pub loop-i-preserved : goal.loop-i-preserved
loop-i-preserved c =
    let turn =
    pairs_turn (seen c.args.key.now)
    (seen c.args.value.now) c.args.trees.now c.args.nodes.now c.loop-i.i c.index-trees-i.result
    c.index-nodes-i.result (omega arith) (omega arith) c.index-trees-i.is c.index-nodes-i.is in
    goes_on _ _ _ _ c.in_ok-agrees-2.ensures.value
    (goes_on _ _ _ _ c.in_ok-agrees.ensures.value (sym turn ∙ c.loop-i.invariant))

pub returns : goal.returns
returns c = record {
  value = sym c.loop-i.invariant ∙ pairs_over (seen c.args.key.now)
      (seen c.args.value.now) c.args.trees.now c.args.nodes.now c.loop-i.i (omega arith);
}
