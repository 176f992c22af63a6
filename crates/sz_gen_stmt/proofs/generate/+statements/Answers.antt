-- The code of each statement, from that of its parts.
use Rattle.std.proofs.Common.{◌≡◌, ◌∙◌, ◌+◌, ◌<◌, suc, Some, List, length, sym, ap, subst, map, drop, arith}
use Rattle.std.proofs.lemmas.Result.{on_ok_weaker}
use Rattle.std.specs.Option.{option_map}
use Rattle.sz_core.specs.declared.expr.CoreExpr.{CoreExpr}
use Rattle.sz_core.specs.declared.stmt.CoreStep.{CoreStep}
use Rattle.sz_core.specs.Nodes.{nodes_of}
use Rattle.sz_core.specs.Statements.{store, emit, stms_of}
use Rattle.sz_core.specs.View.{node_of, step_of, quantity_of, quantified_of, stm_of}
use Rattle.sz_core.proofs.ForCallers.{stm_of_block}
use Rattle.sz_gen_expr.proofs.Builds.{none, after, renamed, no_more, closed_after, starts, stays}
use Rattle.sz_instr.specs.declared.instr.Instr.TheVariants.{Return}
use Rattle.sz_types.proofs.ForCallers.{rest_more, rest_none}
use Rattle.sz_gen_rules.specs.ExpressionCode.{expression_code}
use Rattle.sz_gen_rules.specs.StatementCode.{test_code, in_search, variable_code_of, statement_code}
use Rattle.sz_gen_rules.specs.SearchCode.{search_code}
use Rattle.sz_gen_stmt.specs.Making.{exits_of, node_if_some, stm_if_some, AppendsStm, AppendsStms, AppendsLoop, AppendsIfAny, AppendsSearch, AppendsHolds}
use Rattle.sz_gen_stmt.proofs.Made.{of_stm, lent_is, stays_landed, branch_made, loop_made, loop_after_made}
use Rattle.sz_gen_stmt.proofs.SearchMade.{when_made, none_searched, some_searched, each_searched, all_searched}
use Rattle.sz_gen_stmt.proofs.Sizes.{stm_size, stms_size, item_size}
use Rattle.sz_gen_stmt.proofs.generate.+statements.Goals as goal

-- ---- the sizes

pub gen_stmts-gen_stmt-requires : goal.gen_stmts-gen_stmt-requires
gen_stmts-gen_stmt-requires t c = (
  omega (
    arith,
    item_size c.args.statements.now c.loop-statement.statement-index c.statement-item.result
        c.loop-statement-test.true c.statement-item.is,
    c.decreases,
  ),
  tt,
)

pub gen_stmt-gen_stmts-requires : goal.gen_stmt-gen_stmts-requires
gen_stmt-gen_stmts-requires t c = (
  omega (
    arith,
    ap stm_size (ap stm_of c.in-Block.is ∙ stm_of_block _),
    ap (λ l. stms_size (stms_of (map stm_of l)))
        c.as_slice.ensures.value,
    c.decreases,
  ),
  tt,
)

-- ---- the loop

pub gen_stmts-loop-statement-init : goal.gen_stmts-loop-statement-init
gen_stmts-loop-statement-init t c = λ new h. h

pub gen_stmts-loop-statement-preserved : goal.gen_stmts-loop-statement-preserved
gen_stmts-loop-statement-preserved t c = λ new h.
    c.loop-statement.invariant new
    (subst (λ ss. AppendsStms c.loop-statement.into new (stms_of ss) (exits_of c.args.out))
    (sym (rest_more stm_of c.args.statements.now c.loop-statement.statement-index c.statement-item.result
    c.loop-statement-test.true c.statement-item.is)) (after c.in_ok-gen_stmt.ensures.made h))

pub gen_stmts-returns : goal.gen_stmts-returns
gen_stmts-returns t c = record {
  made = c.loop-statement.invariant c.loop-statement.into
      (subst (λ ss. AppendsStms c.loop-statement.into c.loop-statement.into (stms_of ss) (exits_of c.args.out))
      (sym (rest_none stm_of c.args.statements.now c.loop-statement.statement-index c.loop-statement-test.false))
      (none c.loop-statement.into));
}

-- ---- statements without statements

pub gen_stmt-returns-in-Block : goal.gen_stmt-returns-in-Block
gen_stmt-returns-in-Block t c = record {
  made = on_ok_weaker c.gen_stmts.result
      (λ h. of_stm (exits_of c.args.out) c.args.s.now _ (ap stm_of c.in-Block.is ∙ stm_of_block _)
      (subst (λ ss. AppendsStms c.args.into.now c.gen_stmts.new.into (stms_of (map stm_of ss)) (exits_of c.args.out))
      c.as_slice.ensures.value h)) c.gen_stmts.ensures.made;
}

pub gen_stmt-returns-in-Clear : goal.gen_stmt-returns-in-Clear
gen_stmt-returns-in-Clear t c = record {
  made = on_ok_weaker c.free.result (λ h. of_stm (exits_of c.args.out) c.args.s.now _ (ap stm_of c.in-Clear.is) h)
      c.free.ensures.made;
}

pub gen_stmt-returns-in-Break : goal.gen_stmt-returns-in-Break
gen_stmt-returns-in-Break t c = record {
  made = on_ok_weaker c.free-in-Break.result
      (λ h. of_stm (exits_of c.args.out) c.args.s.now _ (ap stm_of c.in-Break.is) h) c.free-in-Break.ensures.made;
}

pub gen_stmt-returns-in-Continue : goal.gen_stmt-returns-in-Continue
gen_stmt-returns-in-Continue t c = record {
  made = on_ok_weaker c.free-in-Continue.result
      (λ h. of_stm (exits_of c.args.out) c.args.s.now _ (ap stm_of c.in-Continue.is) h)
      c.free-in-Continue.ensures.made;
}

pub gen_stmt-returns-in-EndRecord : goal.gen_stmt-returns-in-EndRecord
gen_stmt-returns-in-EndRecord t c = record {
  made = on_ok_weaker c.close.result
      (λ h. of_stm (exits_of c.args.out) c.args.s.now _ (ap stm_of c.in-EndRecord.is) h) c.close.ensures.made;
}

pub gen_stmt-returns-in_ok-gen_expr-in-Evaluate : goal.gen_stmt-returns-in_ok-gen_expr-in-Evaluate
gen_stmt-returns-in_ok-gen_expr-in-Evaluate t c = record {
  made = on_ok_weaker c.append.result (λ h. of_stm (exits_of c.args.out) c.args.s.now _ (ap stm_of c.in-Evaluate.is)
      (no_more (after c.in_ok-gen_expr-in-Evaluate.ensures.made h))) c.append.ensures.made;
}

pub gen_stmt-returns-in_ok-gen_discards-in-Return : goal.gen_stmt-returns-in_ok-gen_discards-in-Return
gen_stmt-returns-in_ok-gen_discards-in-Return t c = record {
  made = on_ok_weaker c.gen_closed-in-Return.result
      (λ h. of_stm (exits_of c.args.out) c.args.s.now _ (ap stm_of c.in-Return.is)
      (renamed (λ tables n. n.1) (closed_after (node_of c.in-Return.value) Return
      c.in-Return.place c.in_ok-gen_discards-in-Return.ensures.made h)))
      c.gen_closed-in-Return.ensures.made;
}

pub gen_stmt-returns-in-Store : goal.gen_stmt-returns-in-Store
gen_stmt-returns-in-Store t c = record {
  made = on_ok_weaker c.gen_store.result (λ h. of_stm (exits_of c.args.out) c.args.s.now _ (ap stm_of c.in-Store.is)
      (subst (λ (path : List CoreStep). AppendsStm c.args.into.now c.gen_store.new.into
      (store c.in-Store.place c.in-Store.n (map step_of path) (node_of c.in-Store.value))
      (exits_of c.args.out)) c.as_slice-in-Store.ensures.value h)) c.gen_store.ensures.made;
}

pub gen_stmt-returns-in-Emit : goal.gen_stmt-returns-in-Emit
gen_stmt-returns-in-Emit t c = record {
  made = on_ok_weaker c.gen_emit.result (λ h. of_stm (exits_of c.args.out) c.args.s.now _ (ap stm_of c.in-Emit.is)
      (subst (λ (es : List CoreExpr). AppendsStm c.args.into.now c.gen_emit.new.into
      (emit c.in-Emit.place c.in-Emit.table (nodes_of (map node_of es)) (node_of c.in-Emit.value)
      (option_map node_of c.in-Emit.weight)) (exits_of c.args.out))
      c.as_slice-in-Emit.ensures.value h)) c.gen_emit.ensures.made;
}

pub gen_stmt-returns-in-For : goal.gen_stmt-returns-in-For
gen_stmt-returns-in-For t c =
    let f = c.in-For in
    let out = exits_of c.args.out in
    record {
      made = on_ok_weaker c.gen_loop-in-For.result (λ h. of_stm out c.args.s.now _ (ap stm_of f.is)
          (subst (λ e. AppendsLoop c.args.into.now c.gen_loop-in-For.new.into f.place e
          (Some (stm_of f.between.value)) (stm_of f.body.value) out)
          (lent_is node_of c.as_ref.result f.test c.as_ref.ensures.value)
          (subst (λ d. AppendsLoop c.args.into.now c.gen_loop-in-For.new.into f.place (node_if_some c.as_ref.result)
          (Some (stm_of d)) (stm_of f.body.value) out) c.deref-in-For.ensures
          (subst (λ d. AppendsLoop c.args.into.now c.gen_loop-in-For.new.into f.place
          (node_if_some c.as_ref.result) (Some (stm_of c.deref-in-For.result.now)) (stm_of d) out)
          c.deref-in-For-2.ensures h)))) c.gen_loop-in-For.ensures.made;
    }

-- ---- a branch

pub gen_branch-land-requires : goal.gen_branch-land-requires
gen_branch-land-requires t c = record {
  within = stays (stays (starts c.in_ok-skip.ensures.at c.in_ok-skip.ensures.made) c.in_ok-gen_stmt.ensures.made)
      c.in_ok-over.ensures.made;
}

pub gen_branch-land-requires-2 : goal.gen_branch-land-requires-2
gen_branch-land-requires-2 t c = record {
  within = stays (stays_landed (starts c.in_ok-over.ensures.at c.in_ok-over.ensures.made) c.land.ensures.made)
      c.in_ok-gen_stmt-2.ensures.made;
}

pub gen_branch-land_past-requires : goal.gen_branch-land_past-requires
gen_branch-land_past-requires t c =
    let first = stays (stays (starts c.in_ok-skip.ensures.at c.in_ok-skip.ensures.made) c.in_ok-gen_stmt.ensures.made)
    c.in_ok-over.ensures.made in
    record {
      within = stays_landed (stays (stays_landed first c.land.ensures.made) c.in_ok-gen_stmt-2.ensures.made)
          c.land-2.ensures.made;
    }

pub gen_branch-returns : goal.gen_branch-returns
gen_branch-returns t c = record {
  made = branch_made c.args.place c.in_ok-skip.skip c.in_ok-over.over c.in_ok-gen_expr.ensures.made
      c.in_ok-skip.ensures.at c.in_ok-skip.ensures.made c.in_ok-gen_stmt.ensures.made c.in_ok-over.ensures.at
      c.in_ok-over.ensures.made c.land.ensures.made c.in_ok-gen_stmt-2.ensures.made
      c.land-2.ensures.made c.land_past.ensures.made;
}

-- ---- loops

pub gen_loop-land-requires : goal.gen_loop-land-requires
gen_loop-land-requires t c = record {
  within = stays (stays (stays (starts c.in_ok-entry.ensures.at c.in_ok-entry.ensures.made) c.in_ok-past.ensures.made)
      c.in_ok-gen_if_any.ensures.made) c.in_ok-close.ensures.made;
}

pub gen_loop-land-requires-2 : goal.gen_loop-land-requires-2
gen_loop-land-requires-2 t c =
    let first = stays (stays (starts c.in_ok-past.ensures.at c.in_ok-past.ensures.made)
    c.in_ok-gen_if_any.ensures.made) c.in_ok-close.ensures.made in
    record {
      within = stays (stays (stays (stays_landed first c.land.ensures.made) c.in_ok-gen_test.ensures.made)
          c.in_ok-gen_stmt.ensures.made) c.in_ok-free.ensures.made;
    }

pub gen_loop-returns : goal.gen_loop-returns
gen_loop-returns t c = record {
  made = loop_made (λ tables away at. test_code tables c.args.place (node_if_some c.args.test) away away at)
      (λ tables b k at. statement_code tables (stm_of c.args.body.now)
      (record { on_break = b; on_continue = k; flags = c.args.out.flags }) at)
      c.args.place c.in_ok-entry.entry c.in_ok-past.past c.here-again.result
      c.in_ok-entry.ensures.at c.in_ok-entry.ensures.made c.in_ok-past.ensures.at c.in_ok-past.ensures.made
      c.here-again.ensures.value c.in_ok-gen_if_any.ensures.made c.in_ok-close.ensures.made c.land.ensures.made
      c.in_ok-gen_test.ensures.made c.in_ok-gen_stmt.ensures.made c.in_ok-free.ensures.made c.land-2.ensures.made;
}

pub gen_if_any-returns-in-Some : goal.gen_if_any-returns-in-Some
gen_if_any-returns-in-Some t c = record {
  made = on_ok_weaker c.gen_stmt.result
      (λ h. subst (λ o. AppendsIfAny c.args.into.now c.gen_stmt.new.into (stm_if_some o) (exits_of c.args.out))
      (sym c.in-Some.is) h) c.gen_stmt.ensures.made;
}

pub gen_do_while-land-requires : goal.gen_do_while-land-requires
gen_do_while-land-requires t c = record {
  within = stays (stays (starts c.in_ok-entry.ensures.at c.in_ok-entry.ensures.made) c.in_ok-past.ensures.made)
      c.in_ok-to_test.ensures.made;
}

pub gen_do_while-land-requires-2 : goal.gen_do_while-land-requires-2
gen_do_while-land-requires-2 t c = record {
  within = stays (stays_landed (starts c.in_ok-to_test.ensures.at c.in_ok-to_test.ensures.made) c.land.ensures.made)
      c.in_ok-gen_stmt.ensures.made;
}

pub gen_do_while-land-requires-3 : goal.gen_do_while-land-requires-3
gen_do_while-land-requires-3 t c =
    let first = stays (starts c.in_ok-past.ensures.at c.in_ok-past.ensures.made) c.in_ok-to_test.ensures.made in
    let second = stays_landed (stays (stays_landed first c.land.ensures.made) c.in_ok-gen_stmt.ensures.made)
    c.land-2.ensures.made in
    record {
      within = stays (stays (stays second c.in_ok-gen_test.ensures.made) c.in_ok-close.ensures.made)
          c.in_ok-free.ensures.made;
    }

pub gen_do_while-returns : goal.gen_do_while-returns
gen_do_while-returns t c = record {
  made = loop_after_made (λ tables away at. test_code tables c.args.place (Some (node_of c.args.test.now)) away away at)
      (λ tables b k at. statement_code tables (stm_of c.args.body.now)
      (record { on_break = b; on_continue = k; flags = c.args.out.flags }) at)
      c.args.place c.in_ok-entry.entry c.in_ok-past.past c.in_ok-to_test.to_test c.here-again.result
      c.in_ok-entry.ensures.at c.in_ok-entry.ensures.made c.in_ok-past.ensures.at c.in_ok-past.ensures.made
      c.in_ok-to_test.ensures.at c.in_ok-to_test.ensures.made c.here-again.ensures.value c.land.ensures.made
      c.in_ok-gen_stmt.ensures.made c.land-2.ensures.made c.in_ok-gen_test.ensures.made c.in_ok-close.ensures.made
      c.in_ok-free.ensures.made c.land-3.ensures.made;
}

-- ---- searches

pub gen_when-land-requires : goal.gen_when-land-requires
gen_when-land-requires t c = record {
  within = stays (starts c.in_ok-entry.ensures.at c.in_ok-entry.ensures.made) c.in_ok-past.ensures.made;
}

pub gen_when-land-requires-2 : goal.gen_when-land-requires-2
gen_when-land-requires-2 t c = record {
  within = stays (stays_landed (starts c.in_ok-past.ensures.at c.in_ok-past.ensures.made) c.land.ensures.made)
      c.in_ok-gen_search.ensures.made;
}

pub gen_when-returns : goal.gen_when-returns
gen_when-returns t c = record {
  made = when_made
      (λ tables f at. search_code tables c.args.place (expression_code tables (node_of c.args.condition.now))
      (λ flags. statement_code tables (stm_of c.args.body.now) (in_search (exits_of c.args.out) flags))
      (map (variable_code_of tables) (map quantified_of c.args.variables.now)) c.args.out.flags f at)
      c.in_ok-entry.entry c.in_ok-past.past c.in_ok-entry.ensures.at c.in_ok-entry.ensures.made
      c.in_ok-past.ensures.at c.in_ok-past.ensures.made
      c.land.ensures.made c.in_ok-gen_search.ensures.made c.land-2.ensures.made;
}

pub gen_search-returns-in_default : goal.gen_search-returns-in_default
gen_search-returns-in_default t c =
    let e = node_of c.args.search.condition.now in
    let body = stm_of c.args.search.body.now in
    let out = exits_of c.args.out in
    record {
      made = on_ok_weaker c.gen_stmt.result
          (λ h. subst (λ vs. AppendsSearch c.args.into.now c.gen_stmt.new.into c.args.search.place vs e body out
          c.args.fail)
          (sym (rest_none quantified_of c.args.variables.now 0 (omega (arith, c.in_default.len_below))))
          (none_searched c.args.search.place e body out
          c.args.fail c.in_ok-gen_expr.ensures.made c.in_ok-free.ensures.made h)) c.gen_stmt.ensures.made;
    }

pub gen_search-returns-in_ok-gen_holds-in-All : goal.gen_search-returns-in_ok-gen_holds-in-All
gen_search-returns-in_ok-gen_holds-in-All t c =
    let e = node_of c.args.search.condition.now in
    let body = stm_of c.args.search.body.now in
    let out = exits_of c.args.out in
    let vs = c.args.variables.now in
    let v = c.variable-item.result in
    let lt : 0 < length vs = omega (arith, c.in-len1-up.len_at_least) in
    let here = rest_more quantified_of vs 0 v lt c.variable-item.is in
    record {
      made = on_ok_weaker c.gen_stmt-in-All.result
          (λ h. subst (λ l. AppendsSearch c.args.into.now c.gen_stmt-in-All.new.into
          c.args.search.place l e body out c.args.fail)
          (sym here)
          (all_searched c.args.search.place e body out c.args.fail (quantified_of v) (map quantified_of (drop 1 vs))
          (ap quantity_of c.in-All.is) (subst (λ l. AppendsHolds c.args.into.now c.gen_holds.new.into
          c.args.search.place l e c.args.fail) here c.in_ok-gen_holds-in-All.ensures.made) h))
          c.gen_stmt-in-All.ensures.made;
    }

pub gen_some-returns : goal.gen_some-returns
gen_some-returns t c = record {
  made = on_ok_weaker c.free.result
      (λ h. some_searched c.args.search.place (node_of c.args.search.condition.now) (stm_of c.args.search.body.now)
      (exits_of c.args.out) c.args.fail (quantified_of c.args.variable.now)
      (map quantified_of c.args.rest.now) c.in_ok-top.top c.requires.some
      c.in_ok-gen_candidates.ensures.made c.in_ok-top.ensures.at c.in_ok-top.ensures.made
      c.in_ok-gen_search.ensures.made h) c.free.ensures.made;
}

pub gen_each-land-requires : goal.gen_each-land-requires
gen_each-land-requires t c = record {
  within = stays
      (stays (stays (stays (starts c.in_ok-top.ensures.at c.in_ok-top.ensures.made) c.in_ok-gen_search.ensures.made)
      c.in_ok-free.ensures.made) c.in_ok-gen_flag-2.ensures.made) c.in_ok-free-2.ensures.made;
}

pub gen_each-returns : goal.gen_each-returns
gen_each-returns t c =
    let e = node_of c.args.search.condition.now in
    let body = stm_of c.args.search.body.now in
    let out = exits_of c.args.out in
    let more = map quantified_of c.args.rest.now in
    let one : c.args.out.flags + 1 ≡ suc c.args.out.flags = omega arith in
    record {
      made = on_ok_weaker c.free-3.result
          (λ h. each_searched c.args.search.place e body out c.args.fail (quantified_of c.args.variable.now) more
          c.in_ok-top.top
          c.requires.each c.in_ok-gen_candidates.ensures.made c.in_ok-gen_flag.ensures.made c.in_ok-top.ensures.at
          c.in_ok-top.ensures.made (subst (λ n. AppendsSearch c.push.new.self c.gen_search.new.into
          c.args.search.place more e body (record out { flags = n }) c.in_ok-top.top)
          (c.in_ok-flags.ensures.value ∙ one) c.in_ok-gen_search.ensures.made)
          c.in_ok-free.ensures.made c.in_ok-gen_flag-2.ensures.made c.in_ok-free-2.ensures.made c.land.ensures.made h)
          c.free-3.ensures.made;
    }
