use Rattle.std.proofs.Common.{[], sym, subst}
use Rattle.sz_total.specs.States.{TotalState}
use Rattle.sz_workers.specs.Parts.{HoldsShards}
use Rattle.sz_workers.proofs.part.empty_lane.Goals as goal

-- whether its tables deal early nobody sees
pub new-requires : goal.new-requires
new-requires g c = record {
  empty = subst (λ (t : TotalState). HoldsShards g.N.RoundName.job g.N.RoundName.round t c.in_ok-load.load.first [])
      (sym c.deal_early.ensures.same) c.in_ok-load.ensures.value;
}
