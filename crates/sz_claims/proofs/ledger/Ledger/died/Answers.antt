use Rattle.std.proofs.Common.{sym, subst, refl, arith}
use Rattle.sz_claims.specs.Rule.{view_of}
use Rattle.sz_claims.proofs.SoundLemmas.{one_ledger, in_plan, in_attempts, sound_quiet}
use Rattle.sz_book_rules.specs.History.{HasDrawn, HasNumber}
use Rattle.sz_claims.proofs.ledger.Ledger.died.Goals as goal

pub death-requires-clause-table : goal.death-requires-clause-table
death-requires-clause-table g c =
    let one = one_ledger _ _ _ (view_of c.pass.inside.seat.me) _ _ _ _ c.pass.view_is c.self.view_is c.requires.of in
    let drew : HasDrawn c.args.claim.now (view_of c.pass.inside.seat.me).mine =
    subst (λ k. HasDrawn c.args.claim.now k.mine) (sym c.pass.view_is) c.requires.drew in
    let t = in_plan _ _ _ _ _ _ _ _ c.pass.invariant one.plan c.self.invariant.plan drew in
    let words = c.self.invariant.words in
    (one.table, omega arith)

pub death-requires-clause-small : goal.death-requires-clause-small
death-requires-clause-small g c =
    let one = one_ledger _ _ _ (view_of c.pass.inside.seat.me) _ _ _ _ c.pass.view_is c.self.view_is c.requires.of in
    let given : HasNumber c.args.claim.now c.args.number (view_of c.pass.inside.seat.me).mine =
    subst (λ k. HasNumber c.args.claim.now c.args.number k.mine) (sym c.pass.view_is) c.requires.given in
    in_attempts _ _ _ _ _ _ _ _ _ c.pass.invariant one.plan c.self.invariant.plan given

pub invariant_of-pass : goal.invariant_of-pass
invariant_of-pass g c = sound_quiet _ _ _ _ _ _ _ _ _ _ c.pass.invariant c.death.ensures.call.0 c.death.ensures.call.1 refl (λ t. refl)
