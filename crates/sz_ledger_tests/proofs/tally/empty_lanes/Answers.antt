use Rattle.std.proofs.Common.{[], ◌∷◌, ◌+◌, length, ap, sym, ◌∙◌, subst, length-append}
use Rattle.sz_claims.specs.Known.{AreEmpty}
use Rattle.sz_ledger_tests.proofs.EmptyLanes.{one_more_empty}
use Rattle.sz_ledger_tests.proofs.tally.empty_lanes.Goals as goal

pub loop-preserved : goal.loop-preserved
loop-preserved c =
    let push = c.in_ok-push.ensures.items in
    let lane = c.in_ok-lane.ensures.value in
    let plan = c.in_ok-load.ensures.value.1 in (
      subst (AreEmpty c.args.plan.now) (sym push)
          (one_more_empty c.args.plan.now c.loop.lanes.items c.in_ok-lane.lane c.loop.invariant.0
          (ap (λ l. l.plan) lane ∙ plan) (ap (λ l. l.shards) lane)),
      ap length push ∙ length-append c.loop.lanes.items (c.in_ok-lane.lane ∷ []) ∙ ap (λ n. n + 1) c.loop.invariant.1,
    )
