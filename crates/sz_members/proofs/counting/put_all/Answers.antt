-- Each turn counts one value of the other side, for which there is room.
use Rattle.std.proofs.Common.{length, ap, subst, arith}
use Rattle.std.proofs.lemmas.Map.Iter.{rest_more}
use Rattle.sz_types.specs.SeenTables.{seen_table}
use Rattle.sz_members.proofs.MembersLemmas.{IsUpTo, up_to_more, emits_left}
use Rattle.sz_members.proofs.counting.put_all.Goals as goal

pub loop-value-preserved : goal.loop-value-preserved
loop-value-preserved c =
    let table = seen_table c.args.table.now in
    let first = c.args.tally.now.entries in
    let others = c.args.others.entries in
    let es = c.loop-value.value-iterator in
    let rest = c.next.new.self in
    let step =
    rest_more (λ p. p) es rest c.next.result (c.in-Some.value, c.in-Some.repeats) c.in-Some.is c.next.ensures.steps in
    let before = subst (IsUpTo table first others c.loop-value.tally.entries) step c.loop-value.invariant.0 in
    let long = ap length step in (
      up_to_more table first others c.loop-value.tally.entries c.put.new.tally.entries rest
          c.in-Some.value c.in-Some.repeats before c.put.ensures.value,
      omega (arith, long, c.loop-value.invariant.1, c.put.ensures.spare),
      omega (arith, c.loop-value.invariant.2, c.put.ensures.capacity),
    )

pub put-requires-clause-fits : goal.put-requires-clause-fits
put-requires-clause-fits c =
    let table = seen_table c.args.table.now in
    let first = c.args.tally.now.entries in
    let others = c.args.others.entries in
    let step = rest_more (λ p. p) c.loop-value.value-iterator c.next.new.self c.next.result
    (c.in-Some.value, c.in-Some.repeats) c.in-Some.is c.next.ensures.steps in
    let before = subst (IsUpTo table first others c.loop-value.tally.entries) step c.loop-value.invariant.0 in
    omega (
      arith,
      c.requires.fits,
      emits_left table first others c.loop-value.tally.entries c.next.new.self c.in-Some.value c.in-Some.repeats before,
    )

pub put-requires-clause-some : goal.put-requires-clause-some
put-requires-clause-some c =
    let table = seen_table c.args.table.now in
    let step = rest_more (λ p. p) c.loop-value.value-iterator c.next.new.self c.next.result
    (c.in-Some.value, c.in-Some.repeats) c.in-Some.is c.next.ensures.steps in
    (subst (IsUpTo table c.args.tally.now.entries c.args.others.entries c.loop-value.tally.entries) step
    c.loop-value.invariant.0).left.0

pub put-requires-clause-room : goal.put-requires-clause-room
put-requires-clause-room c =
    let step = rest_more (λ p. p) c.loop-value.value-iterator c.next.new.self c.next.result
    (c.in-Some.value, c.in-Some.repeats) c.in-Some.is c.next.ensures.steps in
    omega (arith, ap length step, c.loop-value.invariant.1)
