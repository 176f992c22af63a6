use Rattle.std.proofs.Common.{[], ◌∷◌, ap, sym, subst}
use Rattle.sz_claims.specs.Known.{AreInHand}
use Rattle.sz_claims.proofs.ForCallers.{in_hand_now}
use Rattle.sz_ledger_tests.proofs.schedules.settles.Goals as goal

pub place-requires-clause-won : goal.place-requires-clause-won
place-requires-clause-won c =
    let shard = ap (λ r. r.shard) c.in-Won.ensures.won in
    subst (λ s. AreInHand (s ∷ []) c.settle.new.pass.mine) (sym shard)
    (in_hand_now c.args.pass.now c.settle.new.pass c.args.claim c.args.number c.in-Won.ensures.call)
