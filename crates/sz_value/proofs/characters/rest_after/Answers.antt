-- A round takes one character off.
use Rattle.sz_value.proofs.CharacterLemmas.{one_more}
use Rattle.sz_value.proofs.characters.rest_after.Goals as goal

pub loop-preserved : goal.loop-preserved
loop-preserved c = one_more _ _ _ _ _ c.loop.invariant c.in_ok-next.ensures.steps.0
