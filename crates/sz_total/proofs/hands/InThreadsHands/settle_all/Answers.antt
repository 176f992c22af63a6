-- Threads share the handle that starts them.
use denote.Param.Send.{param_sync}
use Rattle.sz_total.proofs.hands.InThreadsHands.settle_all.Goals as goal

pub settle_by-requires-sync-R : goal.settle_by-requires-sync-R
settle_by-requires-sync-R g c κs within = param_sync _ _ c.requires.hands
