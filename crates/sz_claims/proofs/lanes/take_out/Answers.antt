use Rattle.std.proofs.Common.{◌∷◌, Some, sym, ap, ◌∙◌, eq-eqb, ne_eqb}
use Rattle.std.proofs.lemmas.Bool.Decides.{when_true, when_false}
use Rattle.atomic_table.specs.Table.{rest}
use Rattle.sz_claims.specs.Rule.{view_of, lane_data}
use Rattle.sz_claims.proofs.LaneLemmas.{asked_some}
use Rattle.sz_claims.proofs.lanes.take_out.Goals as goal

pub exchange-requires : goal.exchange-requires
exchange-requires g c =
    let l = when_true _ _ (eq-eqb _ _ c.if-found-eq0.true) c.lend_as-found.ensures.lent in
    let slot = Some (lane_data (view_of c.args.seat.now.me).plan l.0) in
    (c.lend_as-found.ensures.same ∙ c.requires.table.0, (slot, l.3 ∙ ap (λ q. (c.args.lane_no, slot) ∷ rest q) (sym l.3)))

pub returns-then-found-eq0-clause-asked : goal.returns-then-found-eq0-clause-asked
returns-then-found-eq0-clause-asked g c =
    let l = when_true _ _ (eq-eqb _ _ c.if-found-eq0.true) c.lend_as-found.ensures.lent in
    asked_some c.args.lane_no c.args.seat.now.me _ _ l.0 c.exchange.result l.1 l.2 l.3 c.exchange.ensures.2 c.exchange.ensures.3

pub returns-else-found-eq0-clause-asked : goal.returns-else-found-eq0-clause-asked
returns-else-found-eq0-clause-asked g c = when_false _ _ (ne_eqb _ _ c.if-found-eq0.false) c.lend_as-found.ensures.lent
