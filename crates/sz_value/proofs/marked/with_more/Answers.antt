-- A round finds one place more.
use Rattle.sz_value.proofs.MarkLemmas.{one_place_more}
use Rattle.sz_value.proofs.marked.with_more.Goals as goal

pub loop-preserved : goal.loop-preserved
loop-preserved c = rw c.in_ok-push-in-Some.ensures.items
    (one_place_more _ _ _ c.loop.invariant (rw (← c.as_slice.ensures.value) c.in-Some.ensures.some))
