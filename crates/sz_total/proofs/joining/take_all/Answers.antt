-- Each turn takes one aggregator of the other side, for which there is room.
use Rattle.std.proofs.Common.{length, ap, sym, subst, arith}
use Rattle.std.proofs.lemmas.Map.Iter.{rest_more}
use Rattle.sz_total.proofs.TurnLemmas.{IsTakenUpTo, taken_up_to_none, may_take_next, taken_up_to_more, taken_up_to_all}
use Rattle.sz_total.proofs.joining.take_all.Goals as goal

pub loop-key-init : goal.loop-key-init
loop-key-init c =
    let first = c.args.lists.now.entries in
    let all = c.args.others.entries in
    let gives = c.into_iter-key-iterator.ensures.into_iter_gives in (
      subst (λ es. IsTakenUpTo first all first es) (sym gives.0)
          (taken_up_to_none first all gives.4 c.requires.ready),
      omega (arith, ap length gives.0, c.requires.room),
      omega arith,
    )

pub take-requires-clause-may : goal.take-requires-clause-may
take-requires-clause-may c =
    let first = c.args.lists.now.entries in
    let all = c.args.others.entries in
    let current = c.loop-key.lists.entries in
    let step = rest_more (λ p. p) c.loop-key.key-iterator c.next.new.self c.next.result
    (c.in-Some.key, c.in-Some.other) c.in-Some.is c.next.ensures.steps in
    may_take_next first all current c.in-Some.key c.in-Some.other c.next.new.self
    (subst (IsTakenUpTo first all current) (step) c.loop-key.invariant.0)

pub loop-key-preserved : goal.loop-key-preserved
loop-key-preserved c =
    let first = c.args.lists.now.entries in
    let all = c.args.others.entries in
    let current = c.loop-key.lists.entries in
    let step = rest_more (λ p. p) c.loop-key.key-iterator c.next.new.self c.next.result
    (c.in-Some.key, c.in-Some.other) c.in-Some.is c.next.ensures.steps in
    let before = subst (IsTakenUpTo first all current) (step) c.loop-key.invariant.0 in
    let long = ap length step in (
      taken_up_to_more first all current c.take.new.lists.entries c.in-Some.key c.in-Some.other c.next.new.self before
          c.take.ensures.value,
      omega (arith, long, c.loop-key.invariant.1, c.take.ensures.spare),
      omega (arith, c.loop-key.invariant.2, c.take.ensures.capacity),
    )

pub returns-clause-value : goal.returns-clause-value
returns-clause-value c =
    let first = c.args.lists.now.entries in
    let all = c.args.others.entries in
    let current = c.loop-key.lists.entries in
    taken_up_to_all first all current c.into_iter-key-iterator.ensures.into_iter_gives.4
    (subst (IsTakenUpTo first all current) (c.in-None.ensures.steps.0) c.loop-key.invariant.0)
