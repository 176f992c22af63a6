use Rattle.std.proofs.Common.{◌∙◌, ◌∷◌, ◌+◌, length, sym, ap, subst, map, drop}
use Rattle.sz_core.specs.declared.program.Item.{Item}
use Rattle.sz_core.specs.View.{item_of, static_of}
use Rattle.sz_types.proofs.ForCallers.{rest_more, rest_none}
use Rattle.sz_core.specs.Programs.{statics_of}
use Rattle.sz_gen_stmt.specs.Making.{ExtendsStatics}
use Rattle.sz_gen_stmt.proofs.Made.{extends_none, static_before, no_static}
use Rattle.sz_gen_stmt.proofs.program.gen_statics.Goals as goal

pub loop-item-init : goal.loop-item-init
loop-item-init c = λ new h. h

pub loop-item-preserved : goal.loop-item-preserved
loop-item-preserved c = λ new h.
    c.loop-item.invariant new
    (subst (λ xs. ExtendsStatics c.loop-item.into new (length c.loop-item.into.statics) (statics_of xs))
    (sym
    (rest_more item_of c.args.items.now c.loop-item.item-index c.item-item.result c.loop-item-test.true c.item-item.is
    ∙ ap (λ (x : Item). item_of x ∷ map item_of (drop (c.loop-item.item-index + 1) c.args.items.now)) c.in-Static.is))
    (static_before (static_of c.in-Static.held) (statics_of
    (map item_of (drop (c.loop-item.item-index + 1) c.args.items.now))) c.in_ok-gen_static.ensures.made h))

-- another item
pub loop-item-preserved-in_default : goal.loop-item-preserved-in_default
loop-item-preserved-in_default c = λ new h.
    c.loop-item.invariant new (subst (λ xs. ExtendsStatics c.loop-item.into new (length c.loop-item.into.statics) xs)
    (sym (ap statics_of (rest_more item_of
    c.args.items.now c.loop-item.item-index c.item-item.result c.loop-item-test.true c.item-item.is)
    ∙ no_static c.item-item.result (map item_of (drop (c.loop-item.item-index + 1) c.args.items.now))
    c.in_default.not-Static)) h)

pub returns : goal.returns
returns c = record {
  made = c.loop-item.invariant c.loop-item.into (subst
      (λ xs. ExtendsStatics c.loop-item.into c.loop-item.into (length c.loop-item.into.statics) (statics_of xs))
      (sym (rest_none item_of c.args.items.now c.loop-item.item-index c.loop-item-test.false))
      (extends_none c.loop-item.into (λ tables. tt)));
}
