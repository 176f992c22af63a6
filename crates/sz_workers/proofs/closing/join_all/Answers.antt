use Rattle.std.proofs.Common.{◌+◌, ℕ, ap, subst, arith, length}
use Rattle.std.specs.Vec.Iter.{into_iter_items}
use Rattle.sz_workers.specs.Closing.{AreBack}
use Rattle.sz_workers.proofs.ClosingLemmas.{next_back, next_taken, joined_more}
use Rattle.sz_workers.proofs.closing.join_all.Goals as goal

-- one worker more is joined
pub loop-result-preserved : goal.loop-result-preserved
loop-result-preserved g c =
    let l = c.loop-result in
    let rest = into_iter_items c.next.new.self in
    let found = next_back c.args.ledger.now (length l.first.joined + 1) c.in-Some.result rest
    (into_iter_items l.result-iterator) c.in-Some.ensures.steps.0
    l.invariant.1 in
    let longer = joined_more l.first c.in_ok-pass.pass c.join.new.pass c.join.ensures in (
      next_taken c.args.ledger.now l.first c.in_ok-pass.pass c.join.new.pass l.pockets.items c.push.new.self.items
          c.in_ok-pass.pocket c.in-Some.result
          c.in_ok-pass.was found.0 l.invariant.0 c.join.ensures c.in_ok-push.ensures.items,
      subst (λ (n : ℕ). AreBack c.args.ledger.now n rest) (let e = longer.0 in omega (arith, e)) found.1,
      omega (arith, l.invariant.2, longer.0, longer.1, ap length c.in-Some.ensures.steps.0),
      omega (arith, l.invariant.3, ap length c.in-Some.ensures.steps.0, c.in-Some.ensures.steps.1),
    )
