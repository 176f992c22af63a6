-- The code of each form, from that of its parts.
use Rattle.std.proofs.Common.{◌∙◌, ◌∷◌, [], sym, ap, subst, map, List}
use Rattle.std.proofs.lemmas.Result.{on_ok_weaker}
use Rattle.sz_types.specs.Seen.{seen as shape_of}
use Rattle.sz_types.specs.Same.{alike}
use Rattle.sz_core.specs.declared.expr.CoreExpr.{CoreExpr}
use Rattle.sz_core.specs.declared.expr.CorePair.{CorePair}
use Rattle.sz_core.specs.Nodes.{nodes_of, pairings_of}
use Rattle.sz_core.specs.View.{node_of, form_of, pairing_of}
use Rattle.sz_core.proofs.ForCallers.{form_of_call, form_of_builtin, form_of_array, form_of_tuple, form_of_map}
use Rattle.sz_instr.specs.declared.instr.Instr.TheVariants.{AndTest, OrTest, Call, Apply, Binary, Index, Slice, MakeArray, MakeTuple, MakeMap}
use Rattle.sz_gen_rules.specs.Tables.{line}
use Rattle.sz_gen_rules.specs.ExpressionCode.{conversion, count_of}
use Rattle.sz_gen_rules.specs.Named.{HasTarget}
use Rattle.sz_gen_expr.specs.Building.{Appends, AppendsLine, AppendsNode, AppendsClosed, AppendsDecided, AppendsNodes, AppendsList, AppendsPairings, AppendsMap, Nothing}
use Rattle.sz_gen_expr.proofs.Builds.{none, after, closes, closed_by, closed_after, renamed, three_after, of_form, decided_made, starts, stays}
use Rattle.sz_gen_expr.proofs.Undone.{landed_behind, behind}
use Rattle.sz_types.proofs.ForCallers.{rest_more, rest_none}
use Rattle.sz_gen_expr.proofs.expr.+expr.Goals as goal

-- ---- the loops

pub append_all-loop-e-init : goal.append_all-loop-e-init
append_all-loop-e-init t c = (λ new h. h, λ first g. g)

pub append_all-loop-e-preserved : goal.append_all-loop-e-preserved
append_all-loop-e-preserved t c = (
  λ new h. c.loop-e.invariant.0 new (subst (λ ns. AppendsNodes c.loop-e.into new (nodes_of ns))
      (sym (rest_more node_of c.args.es.now c.loop-e.e-index c.e-item.result c.loop-e-test.true c.e-item.is)) (after c.in_ok-append_expr.ensures.made h)),
  λ first g. c.append_expr.ensures.kept first (c.loop-e.invariant.1 first g),
)

pub append_all-returns : goal.append_all-returns
append_all-returns t c = record {
  made = c.loop-e.invariant.0 c.loop-e.into (subst (λ ns. AppendsNodes c.loop-e.into c.loop-e.into (nodes_of ns))
      (sym (rest_none node_of c.args.es.now c.loop-e.e-index c.loop-e-test.false)) (none c.loop-e.into));
  kept = c.loop-e.invariant.1;
}

pub append_pairs-loop-pair-init : goal.append_pairs-loop-pair-init
append_pairs-loop-pair-init t c = (λ new h. h, λ first g. g)

pub append_pairs-loop-pair-preserved : goal.append_pairs-loop-pair-preserved
append_pairs-loop-pair-preserved t c = (
  λ new h. c.loop-pair.invariant.0 new (subst (λ ps. AppendsPairings c.loop-pair.into new (pairings_of ps))
      (sym (rest_more pairing_of c.args.pairs.now c.loop-pair.pair-index c.pair-item.result c.loop-pair-test.true c.pair-item.is))
      (three_after c.in_ok-append_expr.ensures.made c.in_ok-append_expr-2.ensures.made h)),
  λ first g. c.append_expr-in-loop-pair.ensures.kept first (c.append_expr.ensures.kept first (c.loop-pair.invariant.1 first g)),
)

pub append_pairs-returns : goal.append_pairs-returns
append_pairs-returns t c = record {
  made = c.loop-pair.invariant.0 c.loop-pair.into (subst (λ ps. AppendsPairings c.loop-pair.into c.loop-pair.into (pairings_of ps))
      (sym (rest_none pairing_of c.args.pairs.now c.loop-pair.pair-index c.loop-pair-test.false)) (none c.loop-pair.into));
  kept = c.loop-pair.invariant.1;
}

-- ---- no memory for the second part, or a later one

pub append_all-returns-in_err-append_expr-clause-kept : goal.append_all-returns-in_err-append_expr-clause-kept
append_all-returns-in_err-append_expr-clause-kept t c = λ first g. c.append_expr.ensures.kept first (c.loop-e.invariant.1 first g)

pub append_pairs-returns-in_err-append_expr-clause-kept : goal.append_pairs-returns-in_err-append_expr-clause-kept
append_pairs-returns-in_err-append_expr-clause-kept t c = λ first g. c.append_expr.ensures.kept first (c.loop-pair.invariant.1 first g)

pub append_pairs-returns-in_err-append_expr-2-clause-kept : goal.append_pairs-returns-in_err-append_expr-2-clause-kept
append_pairs-returns-in_err-append_expr-2-clause-kept t c = λ first g.
    c.append_expr-in-loop-pair.ensures.kept first (c.append_expr.ensures.kept first (c.loop-pair.invariant.1 first g))

pub append_decided-returns-in_err-append_expr-clause-kept : goal.append_decided-returns-in_err-append_expr-clause-kept
append_decided-returns-in_err-append_expr-clause-kept t c = λ first g. c.append_expr.ensures.kept first (c.push.ensures.kept first g)

pub append_expr-returns-in_err-append_expr-in-Slice-2-clause-kept : goal.append_expr-returns-in_err-append_expr-in-Slice-2-clause-kept
append_expr-returns-in_err-append_expr-in-Slice-2-clause-kept t c = λ first g.
    c.append_expr-in-Slice-2.ensures.kept first (c.append_expr-in-Slice.ensures.kept first g)

-- ---- what closes parts

pub append_closed-returns : goal.append_closed-returns
append_closed-returns t c = record {
  made = on_ok_weaker c.close.result (λ h. closed_by c.in_ok-append_expr.ensures.made h) c.close.ensures.made;
  kept = λ first g. c.close.ensures.kept first (c.append_expr.ensures.kept first g);
}

pub append_list-returns : goal.append_list-returns
append_list-returns t c = record {
  made = on_ok_weaker c.close.result (λ h. closed_by c.in_ok-append_all.ensures.made h) c.close.ensures.made;
  kept = λ first g. c.close.ensures.kept first (c.append_all.ensures.kept first g);
}

pub append_array-returns : goal.append_array-returns
append_array-returns t c = record {
  made = on_ok_weaker c.append_list.result (λ h. subst (λ n. AppendsList c.args.into.now c.append_list.new.into (nodes_of (map node_of c.args.es.now))
      (MakeArray n) c.args.place) c.in_ok-count.ensures.value h) c.append_list.ensures.made;
  kept = c.append_list.ensures.kept;
}

pub append_tuple-returns : goal.append_tuple-returns
append_tuple-returns t c = record {
  made = on_ok_weaker c.append_list.result (λ h. subst (λ n. AppendsList c.args.into.now c.append_list.new.into (nodes_of (map node_of c.args.es.now))
      (MakeTuple n) c.args.place) c.in_ok-count.ensures.value h) c.append_list.ensures.made;
  kept = c.append_list.ensures.kept;
}

pub append_map-returns : goal.append_map-returns
append_map-returns t c = record {
  made = on_ok_weaker c.close.result (λ h. closed_by c.in_ok-append_pairs.ensures.made
      (subst (λ n. AppendsLine c.append_pairs.new.into c.close.new.self (λ tables. MakeMap n) 1 c.args.place Nothing) c.in_ok-count.ensures.value h))
      c.close.ensures.made;
  kept = λ first g. c.close.ensures.kept first (c.append_pairs.ensures.kept first g);
}

pub append_decided-land-requires : goal.append_decided-land-requires
append_decided-land-requires t c = record { within = stays (starts c.in_ok-at.ensures.at c.in_ok-at.ensures.made) c.in_ok-append_expr.ensures.made }

pub append_decided-returns : goal.append_decided-returns
append_decided-returns t c = record {
  made = on_ok_weaker c.close.result (λ h. decided_made c.args.test c.args.place c.in_ok-at.at c.in_ok-at.ensures.at c.in_ok-at.ensures.made
      c.in_ok-append_expr.ensures.made c.land.ensures.made h) c.close.ensures.made;
  kept = λ first g. c.close.ensures.kept first (landed_behind (behind c.in_ok-at.ensures.at g) c.land.ensures.made
      (c.append_expr.ensures.kept first (c.push.ensures.kept first g)));
}

-- ---- lines by themselves

pub append_expr-returns-in-Local : goal.append_expr-returns-in-Local
append_expr-returns-in-Local t c = record {
  made = on_ok_weaker c.close.result (λ h. of_form c.args.e.now _ (ap form_of c.in-Local.is) h) c.close.ensures.made;
  kept = c.close.ensures.kept;
}

pub append_expr-returns-in-Static : goal.append_expr-returns-in-Static
append_expr-returns-in-Static t c = record {
  made = on_ok_weaker c.close-in-Static.result (λ h. of_form c.args.e.now _ (ap form_of c.in-Static.is) h) c.close-in-Static.ensures.made;
  kept = c.close-in-Static.ensures.kept;
}

pub append_expr-returns-in-Input : goal.append_expr-returns-in-Input
append_expr-returns-in-Input t c = record {
  made = on_ok_weaker c.close-in-Input.result (λ h. of_form c.args.e.now _ (ap form_of c.in-Input.is) h) c.close-in-Input.ensures.made;
  kept = c.close-in-Input.ensures.kept;
}

-- ---- parts and a line

pub append_expr-returns-in_ok-append_expr-in-Convert : goal.append_expr-returns-in_ok-append_expr-in-Convert
append_expr-returns-in_ok-append_expr-in-Convert t c = record {
  made = on_ok_weaker c.add_conversion.result (λ h. of_form c.args.e.now _ (ap form_of c.in-Convert.is)
      (closes (subst (λ d. AppendsNode c.args.into.now c.append_expr.new.into (node_of d)) c.deref-in-Convert.ensures c.in_ok-append_expr-in-Convert.ensures.made)
      (subst (λ (d : CoreExpr). Appends c.append_expr.new.into c.add_conversion.new.self
      (λ tables at. line (conversion tables (shape_of d.ty) (shape_of c.args.e.now.ty)) 1 c.args.e.now.place ∷ [])
      (λ tables. HasTarget tables (alike (shape_of d.ty) (shape_of c.args.e.now.ty)) (shape_of c.args.e.now.ty))) c.deref-in-Convert-2.ensures h)))
      c.add_conversion.ensures.made;
  kept = λ first g. c.add_conversion.ensures.kept first (c.append_expr.ensures.kept first g);
}

pub append_expr-returns-in_ok-append_expr-in-Index : goal.append_expr-returns-in_ok-append_expr-in-Index
append_expr-returns-in_ok-append_expr-in-Index t c = record {
  made = on_ok_weaker c.append_closed-in-Index.result (λ h. of_form c.args.e.now _ (ap form_of c.in-Index.is)
      (closed_after (node_of c.in-Index.index.value) Index c.args.e.now.place (subst (λ d. AppendsNode c.args.into.now c.append_expr-in-Index.new.into
      (node_of d)) c.deref-in-Index.ensures c.in_ok-append_expr-in-Index.ensures.made)
      (subst (λ d. AppendsClosed c.append_expr-in-Index.new.into c.append_closed-in-Index.new.into (node_of d) Index c.args.e.now.place)
      c.deref-in-Index-2.ensures h))) c.append_closed-in-Index.ensures.made;
  kept = λ first g. c.append_closed-in-Index.ensures.kept first (c.append_expr-in-Index.ensures.kept first g);
}

pub append_expr-returns-in_ok-append_expr-in-Binary : goal.append_expr-returns-in_ok-append_expr-in-Binary
append_expr-returns-in_ok-append_expr-in-Binary t c = record {
  made = on_ok_weaker c.append_closed-in-Binary.result (λ h. of_form c.args.e.now _ (ap form_of c.in-Binary.is)
      (closed_after (node_of c.in-Binary.right.value) (Binary c.in-Binary.operator) c.args.e.now.place (subst (λ d. AppendsNode c.args.into.now
      c.append_expr-in-Binary.new.into (node_of d)) c.deref-in-Binary.ensures c.in_ok-append_expr-in-Binary.ensures.made)
      (subst (λ d. AppendsClosed c.append_expr-in-Binary.new.into c.append_closed-in-Binary.new.into (node_of d) (Binary c.in-Binary.operator)
      c.args.e.now.place) c.deref-in-Binary-2.ensures h))) c.append_closed-in-Binary.ensures.made;
  kept = λ first g. c.append_closed-in-Binary.ensures.kept first (c.append_expr-in-Binary.ensures.kept first g);
}

pub append_expr-returns-in_ok-append_expr-in-Slice-2 : goal.append_expr-returns-in_ok-append_expr-in-Slice-2
append_expr-returns-in_ok-append_expr-in-Slice-2 t c = record {
  made = on_ok_weaker c.append_closed-in-Slice.result (λ h. of_form c.args.e.now _ (ap form_of c.in-Slice.is)
      (renamed (λ tables n. (n.0.0, n.0.1, n.1)) (closed_after (node_of c.in-Slice.to.value) Slice c.args.e.now.place (after (subst
      (λ d. AppendsNode c.args.into.now c.append_expr-in-Slice.new.into (node_of d)) c.deref-in-Slice.ensures c.in_ok-append_expr-in-Slice.ensures.made)
      (subst (λ d. AppendsNode c.append_expr-in-Slice.new.into c.append_expr-in-Slice-2.new.into (node_of d)) c.deref-in-Slice-2.ensures
      c.in_ok-append_expr-in-Slice-2.ensures.made))
      (subst (λ d. AppendsClosed c.append_expr-in-Slice-2.new.into c.append_closed-in-Slice.new.into (node_of d) Slice c.args.e.now.place)
      c.deref-in-Slice-3.ensures h)))) c.append_closed-in-Slice.ensures.made;
  kept = λ first g. c.append_closed-in-Slice.ensures.kept first (c.append_expr-in-Slice-2.ensures.kept first (c.append_expr-in-Slice.ensures.kept first g));
}

pub append_expr-returns-in_ok-append_expr-in-And : goal.append_expr-returns-in_ok-append_expr-in-And
append_expr-returns-in_ok-append_expr-in-And t c = record {
  made = on_ok_weaker c.append_decided.result (λ h. of_form c.args.e.now _ (ap form_of c.in-And.is)
      (after (subst (λ d. AppendsNode c.args.into.now c.append_expr-in-And.new.into (node_of d)) c.deref-in-And.ensures c.in_ok-append_expr-in-And.ensures.made)
      (subst (λ d. AppendsDecided c.append_expr-in-And.new.into c.append_decided.new.into (AndTest 0) c.args.e.now.place (node_of d))
      c.deref-in-And-2.ensures h))) c.append_decided.ensures.made;
  kept = λ first g. c.append_decided.ensures.kept first (c.append_expr-in-And.ensures.kept first g);
}

pub append_expr-returns-in_ok-append_expr-in-Or : goal.append_expr-returns-in_ok-append_expr-in-Or
append_expr-returns-in_ok-append_expr-in-Or t c = record {
  made = on_ok_weaker c.append_decided-in-Or.result (λ h. of_form c.args.e.now _ (ap form_of c.in-Or.is)
      (after (subst (λ d. AppendsNode c.args.into.now c.append_expr-in-Or.new.into (node_of d)) c.deref-in-Or.ensures c.in_ok-append_expr-in-Or.ensures.made)
      (subst (λ d. AppendsDecided c.append_expr-in-Or.new.into c.append_decided-in-Or.new.into (OrTest 0) c.args.e.now.place (node_of d))
      c.deref-in-Or-2.ensures h))) c.append_decided-in-Or.ensures.made;
  kept = λ first g. c.append_decided-in-Or.ensures.kept first (c.append_expr-in-Or.ensures.kept first g);
}

-- ---- lists and a line

pub append_expr-returns-in-Call : goal.append_expr-returns-in-Call
append_expr-returns-in-Call t c = record {
  made = on_ok_weaker c.append_list.result (λ h. of_form c.args.e.now _ (ap form_of c.in-Call.is ∙ form_of_call _ _)
      (subst (λ es. AppendsList c.args.into.now c.append_list.new.into (nodes_of (map node_of es)) (Call c.in-Call.f) c.args.e.now.place)
      c.as_slice.ensures.value h)) c.append_list.ensures.made;
  kept = c.append_list.ensures.kept;
}

pub append_expr-returns-in-Builtin : goal.append_expr-returns-in-Builtin
append_expr-returns-in-Builtin t c = record {
  made = on_ok_weaker c.append_list-in-Builtin.result (λ h. of_form c.args.e.now _ (ap form_of c.in-Builtin.is ∙ form_of_builtin _ _)
      (subst (λ es. AppendsList c.args.into.now c.append_list-in-Builtin.new.into (nodes_of (map node_of es)) (Apply c.in-Builtin.f) c.args.e.now.place)
      c.as_slice-in-Builtin.ensures.value h)) c.append_list-in-Builtin.ensures.made;
  kept = c.append_list-in-Builtin.ensures.kept;
}

pub append_expr-returns-in-Array : goal.append_expr-returns-in-Array
append_expr-returns-in-Array t c = record {
  made = on_ok_weaker c.append_array.result (λ h. of_form c.args.e.now _ (ap form_of c.in-Array.is ∙ form_of_array _)
      (subst (λ (es : List CoreExpr). AppendsList c.args.into.now c.append_array.new.into (nodes_of (map node_of es))
      (MakeArray (count_of (nodes_of (map node_of es)))) c.args.e.now.place) c.as_slice-in-Array.ensures.value h)) c.append_array.ensures.made;
  kept = c.append_array.ensures.kept;
}

pub append_expr-returns-in-Tuple : goal.append_expr-returns-in-Tuple
append_expr-returns-in-Tuple t c = record {
  made = on_ok_weaker c.append_tuple.result (λ h. of_form c.args.e.now _ (ap form_of c.in-Tuple.is ∙ form_of_tuple _)
      (subst (λ (es : List CoreExpr). AppendsList c.args.into.now c.append_tuple.new.into (nodes_of (map node_of es))
      (MakeTuple (count_of (nodes_of (map node_of es)))) c.args.e.now.place) c.as_slice-in-Tuple.ensures.value h)) c.append_tuple.ensures.made;
  kept = c.append_tuple.ensures.kept;
}

pub append_expr-returns-in-Map : goal.append_expr-returns-in-Map
append_expr-returns-in-Map t c = record {
  made = on_ok_weaker c.append_map.result (λ h. of_form c.args.e.now _ (ap form_of c.in-Map.is ∙ form_of_map _)
      (subst (λ (ps : List CorePair). AppendsMap c.args.into.now c.append_map.new.into (pairings_of (map pairing_of ps)) c.args.e.now.place)
      c.as_slice-in-Map.ensures.value h)) c.append_map.ensures.made;
  kept = c.append_map.ensures.kept;
}
