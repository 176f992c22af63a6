use Rattle.std.proofs.Common.{◌<◌, ap, ◌∙◌, arith}
use Rattle.sz_claims.specs.Rule.{view_of}
use Rattle.sz_claims.proofs.SoundLemmas.{one_ledger, sound_asked}
use Rattle.sz_claims.proofs.ViewLemmas.{asked_as}
use Rattle.sz_claims.proofs.ledger.Ledger.lend.Goals as goal

pub take_out-requires-clause-table : goal.take_out-requires-clause-table
take_out-requires-clause-table g c =
    let one = one_ledger _ _ _ (view_of c.pass.inside.seat.me) _ _ _ _ c.pass.view_is c.self.view_is c.requires.of in
    let lanes = ap (λ k. k.lanes) c.self.view_is in
    let low = c.requires.within in
    let words = c.self.invariant.words in
    let shards = c.shards.ensures.value in
    (one.table, omega arith)

pub take_out-requires-clause-lane : goal.take_out-requires-clause-lane
take_out-requires-clause-lane g c =
    let lanes = ap (λ k. k.lanes) c.self.view_is in
    let key = ap (λ k. k.lanes) c.self.invariant.key in
    let plan = ap (λ k. k.plan.shards) c.self.invariant.key in
    let low = c.requires.within in
    let shards = c.shards.ensures.value in
    (omega arith, omega arith)

pub take_out-requires-clause-idle : goal.take_out-requires-clause-idle
take_out-requires-clause-idle g c =
    let idle = ap (λ k. k.lane) c.pass.view_is ∙ c.requires.idle in
    (c.pass.invariant.live, idle, c.pass.invariant.idle idle)

pub returns : goal.returns
returns g c =
    let e = c.take_out.ensures in
    let t = asked_as c.pass.inside.seat.table_id _ c.pass.inside.limit _ _ _ _ c.args.lane_no c.take_out.result _ c.pass.view_is e.same e.asked in
    record { none = t.0; some = t.1 }

pub invariant_of-pass : goal.invariant_of-pass
invariant_of-pass g c =
    let one = one_ledger _ _ _ (view_of c.pass.inside.seat.me) _ _ _ _ c.pass.view_is c.self.view_is c.requires.of in
    let lanes = ap (λ k. k.lanes) c.self.view_is in
    let of = one.lanes_are in
    let within = c.requires.within in
    let low : c.args.lane_no < (view_of c.pass.inside.seat.me).lanes = omega arith in
    sound_asked _ _ _ _ _ _ _ _ c.args.lane_no c.take_out.result c.pass.invariant (ap (λ k. k.lane) c.pass.view_is ∙ c.requires.idle) low
    c.take_out.ensures.asked
