use Rattle.std.proofs.Common.{◌∷◌, [], length, sym, ap, ◌∙◌, subst, arith}
use Rattle.std.proofs.lemmas.List.{length-append}
use Rattle.sz_book.specs.Lanes.{LaneData}
use Rattle.sz_claims.specs.Known.{AreEmpty}
use Rattle.sz_workers.proofs.StartLemmas.{one_more_empty}
use Rattle.sz_workers.proofs.round_run.empty_lanes.Goals as goal

-- one lane more is made
pub loop-made-preserved : goal.loop-made-preserved
loop-made-preserved g c =
    let l = c.loop-made in
    let p = c.args.plan.now in
    let lane : LaneData = c.in_ok-lane.lane in
    let is = c.in_ok-push.ensures.items in
    let longer = ap length is ∙ length-append l.lanes.items (lane ∷ []) in
    let of = ap (λ (k : LaneData). k.plan) c.in_ok-lane.ensures.value ∙ sym c.requires.plan in (
      subst (AreEmpty p) (sym is) (one_more_empty p l.lanes.items lane l.invariant.0 of
          (ap (λ (k : LaneData). k.shards) c.in_ok-lane.ensures.value)),
      omega (arith, l.invariant.1, longer),
    )
