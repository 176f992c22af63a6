use Rattle.std.proofs.Common.{◌≡◌, ◌+◌, ◌++◌, ◌||◌, length, map, drop, refl, sym, ap, subst, ◌∙◌, arith, rules}
use Rattle.std.specs.Prelude.{IfOk, false, true}
use Rattle.sz_tree.specs.Statements.{stms_of}
use Rattle.sz_tree.specs.View.{tree_of, first_of, quantifier_of, stm_of}
use Rattle.std.specs.Option.{option_map}
use Rattle.sz_tree.proofs.RowLemmas.{stm_of_block}
use Rattle.sz_check_names.specs.Knowledge.{blocks_of}
use Rattle.sz_check_rules.specs.EmittingTrees.{emits_by, exp_emits, stm_emits, stms_emit, quantified_names}
use Rattle.sz_check_emits.specs.Hidden.{hidden_of}
use Rattle.sz_check_emits.proofs.EmitLemmas.{block_emits, kept_taken, kept_later, kept_after_for, hidden_inside, kept_after_when, first_holds, second_decides}
use Rattle.sz_check_emits.proofs.EmitLemmas.{stms_go, stms_end, front_grows}
use Rattle.sz_check_emits.proofs.emitting.+stm_emits.Goals as goal
use Rattle.sz_check_emits.proofs.emitting.+stm_emits.Goals.{stms_emit-then-emits, stms_emit-else-emits}

-- ---- what is hidden is cut off after each part

pub block_emits-returns-clause-kept : goal.block_emits-returns-clause-kept
block_emits-returns-clause-kept t c =
    let counted : c.len-count.result ≡ length c.args.hidden.now.items = search rules in
    ap hidden_of c.truncate.ensures.items
    ∙ kept_taken c.args.hidden.now.items c.stms_emit.new.hidden.items _ counted c.in_ok-emits.ensures.front

pub inside_emits-returns-clause-kept : goal.inside_emits-returns-clause-kept
inside_emits-returns-clause-kept t c =
    let counted : c.len-count.result ≡ length c.args.hidden.now.items = search rules in
    ap hidden_of c.truncate.ensures.items
    ∙ kept_later c.args.hidden.now.items c.stm_emits.new.hidden.items _
    (stm_of c.args.tree.now) counted c.in_ok-emits.ensures.hidden

pub for_emits-returns-then-start-clause-kept : goal.for_emits-returns-then-start-clause-kept
for_emits-returns-then-start-clause-kept t c =
    let counted : c.len-count.result ≡ length c.args.hidden.now.items = search rules in
    ap hidden_of c.truncate.ensures.items
    ∙ kept_after_for c.args.hidden.now.items c.first_emits.new.hidden.items c.inside_emits.new.hidden.items _
    (option_map first_of c.args.first.now) counted c.in_ok-start.ensures.hidden c.in_ok-body.ensures.kept

pub for_emits-returns-then-step-clause-kept : goal.for_emits-returns-then-step-clause-kept
for_emits-returns-then-step-clause-kept t c =
    let counted : c.len-count.result ≡ length c.args.hidden.now.items = search rules in
    ap hidden_of c.truncate.ensures.items
    ∙ kept_after_for c.args.hidden.now.items c.first_emits.new.hidden.items c.inside_emits.new.hidden.items _
    (option_map first_of c.args.first.now) counted c.in_ok-start.ensures.hidden c.in_ok-body.ensures.kept

pub for_emits-returns-else-step-clause-kept : goal.for_emits-returns-else-step-clause-kept
for_emits-returns-else-step-clause-kept t c =
    let counted : c.len-count.result ≡ length c.args.hidden.now.items = search rules in
    ap hidden_of c.truncate.ensures.items
    ∙ kept_after_for c.args.hidden.now.items c.first_emits.new.hidden.items c.inside_emits.new.hidden.items _
    (option_map first_of c.args.first.now) counted c.in_ok-start.ensures.hidden c.in_ok-body.ensures.kept

-- ---- a block

pub stm_emits-returns-in-Block-clause-value : goal.stm_emits-returns-in-Block-clause-value
stm_emits-returns-in-Block-clause-value t c =
    subst (λ b. IfOk c.block_emits.result (λ emits. emits ≡ b))
    (block_emits (emits_by (blocks_of c.args.known.now))
    (hidden_of c.args.hidden.now.items) c.args.tree.now c.in-Block.field-0 c.in-Block.trees _
    (ap stm_of c.in-Block.is ∙ stm_of_block _ _) c.as_slice.ensures.value)
    c.block_emits.ensures.value

-- ---- statements in order

pub stms_emit-loop-tree-preserved : goal.stms_emit-loop-tree-preserved
stms_emit-loop-tree-preserved t c =
    let emits = emits_by (blocks_of c.args.known.now) in
    let found = c.loop-tree.emits in
    let here = c.in_ok-here.here in
    let hidden = hidden_of c.loop-tree.hidden.items in
    let more = hidden_of c.stm_emits.new.hidden.items in
    let i = c.loop-tree.tree-index in
    let joined : c.if-emits.emits ≡ (found || here) = elim c.if-emits.branch [
      | stms_emit-then-emits w ↦ w.emits-is ∙ w.if-emits.true ∙ sym (first_holds found here w.if-emits.true)
      | stms_emit-else-emits w ↦ w.emits-is ∙ sym (second_decides found here here w.if-emits.false refl)
    ] in
    record {
      found = ap (λ b. b || stms_emit emits more (stms_of (map stm_of (drop (i + 1) c.args.trees.now)))) joined
          ∙ stms_go emits hidden c.args.trees.now i c.tree-item.result found here _ more
          (omega arith) c.tree-item.is c.in_ok-here.ensures.value
          c.in_ok-here.ensures.hidden c.loop-tree.invariant.found;
      front = front_grows (hidden_of c.args.hidden.now.items) hidden more c.loop-tree.invariant.front.0
          (stm_of c.tree-item.result) c.loop-tree.invariant.front.1 c.in_ok-here.ensures.hidden;
    }

pub stms_emit-returns-clause-value : goal.stms_emit-returns-clause-value
stms_emit-returns-clause-value t c =
    stms_end (emits_by (blocks_of c.args.known.now))
    (hidden_of c.loop-tree.hidden.items) c.args.trees.now c.loop-tree.tree-index c.loop-tree.emits _
    (omega arith) c.loop-tree.invariant.found

-- ---- a `when`

pub when_emits-returns-then-asked-clause-kept : goal.when_emits-returns-then-asked-clause-kept
when_emits-returns-then-asked-clause-kept t c =
    let counted : c.len-count.result ≡ length c.args.hidden.now.items = search rules in
    ap hidden_of c.truncate-2.ensures.items
    ∙ kept_after_when c.args.hidden.now.items c.hide_quantified.new.hidden.items c.truncate.new.self.items
    c.hide_quantified-2.new.hidden.items _ (quantified_names false (map quantifier_of c.args.quantifiers.now))
    (quantified_names true (map quantifier_of c.args.quantifiers.now)) counted
    c.in_ok-hide_quantified.ensures.ok c.truncate.ensures.items c.in_ok-hide_quantified-2.ensures.ok
    c.inside_emits.new.hidden.items c.in_ok-body.ensures.kept

pub when_emits-returns-else-asked-clause-value : goal.when_emits-returns-else-asked-clause-value
when_emits-returns-else-asked-clause-value t c =
    let emits = emits_by (blocks_of c.args.known.now) in
    let old = hidden_of c.args.hidden.now.items in
    let names = quantified_names false (map quantifier_of c.args.quantifiers.now) in
    let inside = quantified_names true (map quantifier_of c.args.quantifiers.now) in
    let counted : c.len-count.result ≡ length c.args.hidden.now.items = search rules in
    let there = hidden_inside c.args.hidden.now.items c.hide_quantified.new.hidden.items c.truncate.new.self.items
    c.hide_quantified-2.new.hidden.items _ names inside counted
    c.in_ok-hide_quantified.ensures.ok c.truncate.ensures.items c.in_ok-hide_quantified-2.ensures.ok in
    let silent : exp_emits emits (old ++ names) (tree_of c.args.test.now) ≡ false
    = ap (λ l. exp_emits emits l (tree_of c.args.test.now))
    (sym (ap hidden_of c.as_slice.ensures.value ∙ c.in_ok-hide_quantified.ensures.ok))
    ∙ sym c.exp_emits-asked.ensures.value ∙ c.if-asked.false in
    let body : stm_emits emits (old ++ inside) (stm_of c.args.body.now) ≡ c.in_ok-body.body
    = ap (λ l. stm_emits emits l (stm_of c.args.body.now)) (sym there) ∙ sym c.in_ok-body.ensures.value in
    sym (second_decides (exp_emits emits (old ++ names) (tree_of c.args.test.now))
    (stm_emits emits (old ++ inside) (stm_of c.args.body.now)) c.in_ok-body.body
    silent body)

pub when_emits-returns-else-asked-clause-kept : goal.when_emits-returns-else-asked-clause-kept
when_emits-returns-else-asked-clause-kept t c =
    let counted : c.len-count.result ≡ length c.args.hidden.now.items = search rules in
    ap hidden_of c.truncate-2.ensures.items
    ∙ kept_after_when c.args.hidden.now.items c.hide_quantified.new.hidden.items c.truncate.new.self.items
    c.hide_quantified-2.new.hidden.items _ (quantified_names false (map quantifier_of c.args.quantifiers.now))
    (quantified_names true (map quantifier_of c.args.quantifiers.now)) counted
    c.in_ok-hide_quantified.ensures.ok c.truncate.ensures.items c.in_ok-hide_quantified-2.ensures.ok
    c.inside_emits.new.hidden.items c.in_ok-body.ensures.kept
