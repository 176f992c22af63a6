-- The tables are new ones.
use Rattle.std.proofs.Common.{sym, subst}
use Rattle.sz_total.specs.States.{declarations, emit_count, shown}
use Rattle.sz_total.specs.OneTable.{IsTotal, state_of}
use Rattle.sz_total.specs.Totals.{IsNew}
use Rattle.sz_total.proofs.TotalLemmas.{total_new}
use Rattle.sz_total.proofs.OriginLemmas.{total_is_new}
use Rattle.sz_total.proofs.total.Total.new.Goals as goal

pub invariant_of-result : goal.invariant_of-result
invariant_of-result c =
    subst (IsTotal c.args.tables.now 0) (sym c.in_ok-states.ensures.value) (total_is_new c.args.tables.now)

pub returns : goal.returns
returns c = record {
  empty =
      subst (λ states. IsNew declarations emit_count shown c.args.tables.now (state_of c.args.tables.now 0 states))
      (sym c.in_ok-states.ensures.value) (total_new c.args.tables.now);
}
