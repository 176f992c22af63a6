use Rattle.std.proofs.Common.{◌∙◌, ◌∷◌, ◌+◌, sym, ap, subst, map, drop}
use Rattle.sz_core.specs.declared.program.Item.{Item}
use Rattle.sz_core.specs.View.{item_of, function_of}
use Rattle.sz_types.proofs.ForCallers.{rest_more, rest_none}
use Rattle.sz_core.specs.Programs.{functions_of}
use Rattle.sz_gen_stmt.specs.Making.{ExtendsFunctions}
use Rattle.sz_gen_stmt.proofs.Made.{extends_none, function_before, no_function}
use Rattle.sz_gen_stmt.proofs.program.gen_functions.Goals as goal

pub loop-item-init : goal.loop-item-init
loop-item-init c = λ new h. h

pub loop-item-preserved : goal.loop-item-preserved
loop-item-preserved c = λ new h.
    c.loop-item.invariant new (subst (λ xs. ExtendsFunctions c.loop-item.into new (functions_of xs))
    (sym
    (rest_more item_of c.args.items.now c.loop-item.item-index c.item-item.result c.loop-item-test.true c.item-item.is
    ∙ ap (λ (x : Item). item_of x ∷ map item_of (drop (c.loop-item.item-index + 1) c.args.items.now)) c.in-Function.is))
    (function_before (function_of c.in-Function.function) (functions_of
    (map item_of (drop (c.loop-item.item-index + 1) c.args.items.now))) c.in_ok-gen_function.ensures.made h))

-- another item
pub loop-item-preserved-in_default : goal.loop-item-preserved-in_default
loop-item-preserved-in_default c = λ new h.
    c.loop-item.invariant new (subst (λ xs. ExtendsFunctions c.loop-item.into new xs)
    (sym (ap functions_of (rest_more item_of
    c.args.items.now c.loop-item.item-index c.item-item.result c.loop-item-test.true c.item-item.is)
    ∙ no_function c.item-item.result (map item_of (drop (c.loop-item.item-index + 1) c.args.items.now))
    c.in_default.not-Function)) h)

pub returns : goal.returns
returns c = record {
  made = c.loop-item.invariant c.loop-item.into
      (subst (λ xs. ExtendsFunctions c.loop-item.into c.loop-item.into (functions_of xs))
      (sym (rest_none item_of c.args.items.now c.loop-item.item-index c.loop-item-test.false))
      (extends_none c.loop-item.into (λ tables. tt)));
}
