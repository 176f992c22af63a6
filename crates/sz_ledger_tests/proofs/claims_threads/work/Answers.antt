use Rattle.std.proofs.Common.{[], ◌∷◌, ap, sym, subst}
use Rattle.sz_claims.specs.Known.{AreInHand}
use Rattle.sz_claims.proofs.ForCallers.{has_drawn_now, has_drawn_still, has_number_now, in_hand_now}
use Rattle.sz_ledger_tests.proofs.claims_threads.work.Goals as goal

pub number-requires-clause-drew : goal.number-requires-clause-drew
number-requires-clause-drew c = has_drawn_now _ _ _ c.in-Some.ensures.call

pub settle-requires-clause-drew : goal.settle-requires-clause-drew
settle-requires-clause-drew c =
    has_drawn_still _ _ _ _ _ c.in-Some-number.ensures.call (has_drawn_now _ _ _ c.in-Some.ensures.call)

pub settle-requires-clause-given : goal.settle-requires-clause-given
settle-requires-clause-given c = has_number_now _ _ _ _ c.in-Some-number.ensures.call

pub place-requires-clause-won : goal.place-requires-clause-won
place-requires-clause-won c =
    let shard = ap (λ r. r.shard) c.in-Won.ensures.won in
    subst (λ s. AreInHand (s ∷ []) c.settle.new.pass.mine) (sym shard)
    (in_hand_now c.number.new.pass c.settle.new.pass c.in-Some.claim c.in-Some-number.number c.in-Won.ensures.call)
