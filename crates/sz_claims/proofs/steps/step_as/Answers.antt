use Rattle.sz_claims.specs.declared.steps.Change.TheVariants.{Keep, Next, Mark, Lower, Put}
use Rattle.sz_claims.proofs.CallLemmas.{step_calls}
use Rattle.sz_claims.proofs.steps.step_as.Goals as goal

pub load-requires : goal.load-requires
load-requires g c = (c.requires.table.0, c.requires.table.1, step_calls g.T.Load.died g.T.Load.is_bad _ _ _ _ _ _ _ Keep _ g.C.Asked.reply c.in-Keep.is c.requires.may)

pub fetch_add-requires : goal.fetch_add-requires
fetch_add-requires g c = (c.requires.table.0, c.requires.table.1, step_calls g.T.Load.died g.T.Load.is_bad _ _ _ _ _ _ _ Next _ g.C.Asked.reply c.in-Next.is c.requires.may)

pub fetch_or-requires : goal.fetch_or-requires
fetch_or-requires g c =
    (c.requires.table.0, c.requires.table.1, step_calls g.T.Load.died g.T.Load.is_bad _ _ _ _ _ _ _ (Mark c.in-Mark.bits) _ g.C.Asked.reply c.in-Mark.is c.requires.may)

pub fetch_min-requires : goal.fetch_min-requires
fetch_min-requires g c =
    (c.requires.table.0, c.requires.table.1, step_calls g.T.Load.died g.T.Load.is_bad _ _ _ _ _ _ _ (Lower c.in-Lower.most) _ g.C.Asked.reply c.in-Lower.is c.requires.may)

pub compare_exchange-requires : goal.compare_exchange-requires
compare_exchange-requires g c =
    (c.requires.table.0, c.requires.table.1, step_calls g.T.Load.died g.T.Load.is_bad _ _ _ _ _ _ _ (Put c.in-Put.new) _ g.C.Asked.reply c.in-Put.is c.requires.may)
