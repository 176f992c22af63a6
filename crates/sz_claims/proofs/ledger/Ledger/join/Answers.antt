use Rattle.std.proofs.Common.{◌≡◌, ◌<◌, ap, ◌∙◌, arith}
use Rattle.sz_claims.specs.Rule.{view_of}
use Rattle.sz_claims.proofs.SoundLemmas.{one_ledger, sound_joined}
use Rattle.sz_claims.proofs.PassLemmas.{joins}
use Rattle.sz_claims.proofs.CallLemmas.{looks}
use Rattle.sz_claims.proofs.ledger.Ledger.join.Goals as goal

pub join_seat-requires : goal.join_seat-requires
join_seat-requires g c =
    let one = one_ledger _ _ _ (view_of c.pass.inside.seat.me) _ _ _ _ c.pass.view_is c.self.view_is c.requires.of in
    let two = one_ledger _ _ _ (view_of c.other.inside.seat.me) _ _ _ _ c.other.view_is c.self.view_is c.requires.other in
    let zeroth : (view_of c.pass.inside.seat.me).number ≡ 0 = ap (λ k. k.number) c.pass.view_is ∙ c.requires.first in
    let home : (view_of c.other.inside.seat.me).lane ≡ 0 = ap (λ k. k.lane) c.other.view_is ∙ c.requires.home in
    let words = c.self.invariant.words in
    (one.table, two.table, c.other.invariant.idle home, omega arith, joins _ _ _ _ _ _ _ _ c.pass.invariant.live zeroth c.other.invariant.live home)

pub load-requires : goal.load-requires
load-requires g c =
    let one = one_ledger _ _ _ (view_of c.pass.inside.seat.me) _ _ _ _ c.pass.view_is c.self.view_is c.requires.of in
    let words = c.self.invariant.words in
    let e = c.join_seat.ensures in
    let live : 0 < (view_of c.join_seat.new.seat.me).weight = (let w = ap (λ m. m.0.weight) e.2 in let l = c.pass.invariant.live in omega arith) in
    (e.0 ∙ one.table, omega arith, looks _ _ _ _ _ _ _ _ live)

pub invariant_of-pass : goal.invariant_of-pass
invariant_of-pass g c =
    sound_joined _ _ _ _ _ _ _ _ _ (view_of c.other.inside.seat.me) c.pass.invariant (ap (λ m. m.0) c.join_seat.ensures.2) c.load.ensures.2.0
    (c.load.ensures.2.1 ∙ ap (λ m. m.1) c.join_seat.ensures.2)
