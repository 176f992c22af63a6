use Rattle.std.proofs.Common.{sym, subst, refl, arith}
use Rattle.sz_book_rules.specs.Plan.{IsPlan}
use Rattle.sz_book_rules.specs.History.{HasDrawn}
use Rattle.sz_claims.specs.Rule.{view_of}
use Rattle.sz_claims.proofs.ShardLemmas.{late_low}
use Rattle.sz_claims.proofs.SoundLemmas.{one_ledger, in_plan, sound_quiet}
use Rattle.sz_claims.proofs.ledger.Ledger.settle.Goals as goal

pub settle_found-found-requires-clause-table : goal.settle_found-found-requires-clause-table
settle_found-found-requires-clause-table g c =
    let one = one_ledger _ _ _ (view_of c.pass.inside.seat.me) _ _ _ _ c.pass.view_is c.self.view_is c.requires.of in
    let drew : HasDrawn c.args.claim.now (view_of c.pass.inside.seat.me).mine =
    subst (λ k. HasDrawn c.args.claim.now k.mine) (sym c.pass.view_is) c.requires.drew in
    let t = in_plan _ _ _ _ _ _ _ _ c.pass.invariant one.plan c.self.invariant.plan drew in
    let words = c.self.invariant.words in
    (one.table, omega arith)

pub won-requires : goal.won-requires
won-requires g c =
    let one = one_ledger _ _ _ (view_of c.pass.inside.seat.me) _ _ _ _ c.pass.view_is c.self.view_is c.requires.of in
    let drew : HasDrawn c.args.claim.now (view_of c.pass.inside.seat.me).mine =
    subst (λ k. HasDrawn c.args.claim.now k.mine) (sym c.pass.view_is) c.requires.drew in
    let t = in_plan _ _ _ _ _ _ _ _ c.pass.invariant one.plan c.self.invariant.plan drew in
    record { within = t.1 }

pub overflow_cast-result : goal.overflow_cast-result
overflow_cast-result g c =
    let one = one_ledger _ _ _ (view_of c.pass.inside.seat.me) _ _ _ _ c.pass.view_is c.self.view_is c.requires.of in
    let low = late_low _ _ _ _ c.settle_found-found.result _ _ c.settle_found-found.ensures.call.0
    (subst IsPlan (sym one.plan) c.self.invariant.plan) c.if-found-eq0.false in
    omega arith

pub invariant_of-pass : goal.invariant_of-pass
invariant_of-pass g c =
    sound_quiet _ _ _ _ _ _ _ _ _ _ c.pass.invariant c.settle_found-found.ensures.call.0 c.settle_found-found.ensures.call.1 refl (λ t. refl)
