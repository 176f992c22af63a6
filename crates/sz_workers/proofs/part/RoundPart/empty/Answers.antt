use Rattle.std.proofs.Common.{sym, ap, subst}
use Rattle.sz_total.specs.States.{declarations, emit_count, shown}
use Rattle.sz_total.specs.Totals.{IsNew}
use Rattle.sz_workers.specs.declared.first_faults.FirstFaults.{FirstFaults}
use Rattle.sz_workers.proofs.PartLemmas.{holds_none}
use Rattle.sz_total.specs.Weights.{HaveTheirWeights}
use Rattle.sz_attempt.proofs.ForCallers.{have_their_weights}
use Rattle.sz_workers.proofs.part.RoundPart.empty.Goals as goal

-- the tables of a sound program have their weights
pub new-requires : goal.new-requires
new-requires g c =
    record {
      weights = subst HaveTheirWeights (sym c.requires.decls)
          (have_their_weights g.N.RoundName.job.compiled c.requires.job.sound);
    }

-- they hold no shard
pub returns : goal.returns
returns g c = record {
  value = holds_none g.N.RoundName.job g.N.RoundName.round c.in_ok-total.total c.no_faults.result c.requires.job
      c.requires.round (subst (λ ts. IsNew declarations emit_count shown ts c.in_ok-total.total)
      c.requires.decls c.in_ok-total.ensures.empty) (ap (λ (f : FirstFaults). f.faults) c.no_faults.ensures.value)
      (ap (λ (f : FirstFaults). f.most) c.no_faults.ensures.value);
}
