use Rattle.std.proofs.Common.{◌∙◌, ◌∷◌, ◌+◌, sym, ap, subst, map, drop}
use Rattle.sz_core.specs.declared.program.Item.{Item}
use Rattle.sz_core.specs.View.{item_of}
use Rattle.sz_gen_expr.proofs.Builds.{none, after}
use Rattle.sz_types.proofs.ForCallers.{rest_more, rest_none}
use Rattle.sz_core.specs.Statements.{stms_of}
use Rattle.sz_core.specs.Programs.{statements_of}
use Rattle.sz_gen_rules.specs.StatementCode.{no_exits}
use Rattle.sz_gen_stmt.specs.Making.{AppendsStms}
use Rattle.sz_gen_stmt.proofs.Made.{no_statement}
use Rattle.sz_gen_stmt.proofs.program.gen_statements.Goals as goal

pub loop-item-init : goal.loop-item-init
loop-item-init c = λ new h. h

pub loop-item-preserved : goal.loop-item-preserved
loop-item-preserved c = λ new h.
    c.loop-item.invariant new (subst (λ xs. AppendsStms c.loop-item.into new (stms_of (statements_of xs)) no_exits)
    (sym
    (rest_more item_of c.args.items.now c.loop-item.item-index c.item-item.result c.loop-item-test.true c.item-item.is
    ∙ ap (λ (x : Item). item_of x ∷ map item_of (drop (c.loop-item.item-index + 1) c.args.items.now))
    c.in-Statement.is)) (after c.in_ok-gen_stmt.ensures.made h))

-- another item
pub loop-item-preserved-in_default : goal.loop-item-preserved-in_default
loop-item-preserved-in_default c = λ new h.
    c.loop-item.invariant new (subst (λ xs. AppendsStms c.loop-item.into new (stms_of xs) no_exits)
    (sym (ap statements_of (rest_more item_of
    c.args.items.now c.loop-item.item-index c.item-item.result c.loop-item-test.true c.item-item.is)
    ∙ no_statement c.item-item.result (map item_of (drop (c.loop-item.item-index + 1) c.args.items.now))
    c.in_default.not-Statement)) h)

pub returns : goal.returns
returns c = record {
  made = c.loop-item.invariant c.loop-item.into
      (subst (λ xs. AppendsStms c.loop-item.into c.loop-item.into (stms_of (statements_of xs)) no_exits)
      (sym (rest_none item_of c.args.items.now c.loop-item.item-index c.loop-item-test.false)) (none c.loop-item.into));
}
