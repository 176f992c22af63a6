-- Each turn deals one entry, for which there is room.
use Rattle.std.proofs.Common.{sym, subst}
use Rattle.std.proofs.lemmas.Map.Iter.{rest_more}
use Rattle.sz_total.proofs.CountingLemmas.{IsDealtTo, dealt_none, may_put_next, dealt_more, dealt_all}
use Rattle.sz_total.proofs.OneTableLemmas.{part_within}
use Rattle.sz_total.proofs.dealing.deal_all.Goals as goal

pub loop-key-init : goal.loop-key-init
loop-key-init c =
    let all = c.args.lists.entries in
    subst (λ es. IsDealtTo all es c.args.parts.now.items) (sym c.into_iter-key-iterator.ensures.into_iter_gives.0)
    (dealt_none all c.args.parts.now.items c.requires.room)

pub deal-requires : goal.deal-requires
deal-requires c =
    let all = c.args.lists.entries in
    let step = rest_more (λ p. p) c.loop-key.key-iterator c.next.new.self c.next.result
    (c.in-Some.key, c.in-Some.aggregate) c.in-Some.is c.next.ensures.steps in
    record {
      may = may_put_next all c.next.new.self c.in-Some.key c.in-Some.aggregate c.loop-key.parts.items
          (part_within c.in-Some.key) c.into_iter-key-iterator.ensures.into_iter_gives.4
          (subst (λ es. IsDealtTo all es c.loop-key.parts.items) step c.loop-key.invariant);
    }

pub loop-key-preserved : goal.loop-key-preserved
loop-key-preserved c =
    let all = c.args.lists.entries in
    let step = rest_more (λ p. p) c.loop-key.key-iterator c.next.new.self c.next.result
    (c.in-Some.key, c.in-Some.aggregate) c.in-Some.is c.next.ensures.steps in
    dealt_more all c.next.new.self c.in-Some.key c.in-Some.aggregate c.loop-key.parts.items c.deal.new.parts.items
    (part_within c.in-Some.key)
    (subst (λ es. IsDealtTo all es c.loop-key.parts.items) step c.loop-key.invariant) c.deal.ensures.value

pub returns : goal.returns
returns c = record {
  value = dealt_all c.args.lists.entries c.loop-key.parts.items
      (subst (λ es. IsDealtTo c.args.lists.entries es c.loop-key.parts.items)
      c.in-None.ensures.steps.0 c.loop-key.invariant);
}
