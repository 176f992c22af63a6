use Rattle.std.proofs.Common.{ap, sym, subst, arith}
use Rattle.sz_claims.specs.Rule.{view_of}
use Rattle.sz_claims.specs.Known.{MayGive}
use Rattle.sz_claims.proofs.SoundLemmas.{one_ledger, sound_given}
use Rattle.sz_claims.proofs.ViewLemmas.{one_lane}
use Rattle.sz_claims.proofs.ledger.Ledger.give.Goals as goal

pub bring_home-requires-clause-table : goal.bring_home-requires-clause-table
bring_home-requires-clause-table g c =
    let one = one_ledger _ _ _ (view_of c.pass.inside.seat.me) _ _ _ _ c.pass.view_is c.self.view_is c.requires.of in
    let may = subst (λ k. MayGive k c.args.lane_no c.args.lane) (sym c.pass.view_is) c.requires.may in
    let low = (c.pass.invariant.busy c.args.lane_no may.has_lane).0 in
    let lanes = one.lanes_are in
    let words = c.self.invariant.words in
    let plan = ap (λ k. k.plan.shards) c.self.invariant.key in
    let shards = c.shards.ensures.value in
    (one.table, omega arith, omega arith)

pub bring_home-requires-clause-has_lane : goal.bring_home-requires-clause-has_lane
bring_home-requires-clause-has_lane g c =
    let may = subst (λ k. MayGive k c.args.lane_no c.args.lane) (sym c.pass.view_is) c.requires.may in
    (c.pass.invariant.live, may.has_lane, (c.pass.invariant.busy c.args.lane_no may.has_lane).1)

pub bring_home-requires-clause-lane : goal.bring_home-requires-clause-lane
bring_home-requires-clause-lane g c =
    let may = subst (λ k. MayGive k c.args.lane_no c.args.lane) (sym c.pass.view_is) c.requires.may in
    one_lane c.args.lane _ _ may.plan may.longer

pub bring_home-requires-clause-further : goal.bring_home-requires-clause-further
bring_home-requires-clause-further g c =
    let may = subst (λ k. MayGive k c.args.lane_no c.args.lane) (sym c.pass.view_is) c.requires.may in
    may.further

pub invariant_of-pass : goal.invariant_of-pass
invariant_of-pass g c =
    let given = c.bring_home.ensures.given in
    sound_given _ _ _ _ _ _ _ _ c.args.lane_no _ c.pass.invariant given.0 given.1
