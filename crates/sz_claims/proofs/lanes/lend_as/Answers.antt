use Rattle.std.proofs.Common.{ℕ, ◌==◌, sym, subst}
use prog.Atomic.{either}
use Rattle.atomic_table.specs.Table.{Allows}
use Rattle.sz_claims.specs.Rule.{Kept, Lent}
use Rattle.sz_claims.proofs.LaneLemmas.{lends}
use Rattle.sz_claims.proofs.lanes.lend_as.Goals as goal

pub compare_exchange-requires : goal.compare_exchange-requires
compare_exchange-requires g c =
    let key = c.args.shared.now.key in
    let seat = c.args.seat.now in
    let slots = c.args.shared.now.table_id.slots in
    let P : ℕ → Type 0 = λ j.
    Allows (Kept g.T.Load.died g.T.Load.is_bad key.plan key.lanes) slots seat.id seat.me j (λ m. either (m == 0) 1 m) (Lent g.C.OfLane.lane seat.me) in (
      c.requires.table.0,
      c.requires.table.1,
      subst P (sym c.requires.lane.1)
          (lends g.T.Load.died g.T.Load.is_bad key.plan key.lanes slots seat.id seat.me g.C.OfLane.lane c.requires.lane.0 c.requires.idle.0
          c.requires.idle.1),
    )
