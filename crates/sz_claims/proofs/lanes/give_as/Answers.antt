use Rattle.std.proofs.Common.{ℕ, ◌++◌, refl, sym, subst}
use Rattle.atomic_table.specs.Table.{Me, Allows}
use Rattle.sz_claims.specs.declared.view.View.{View}
use Rattle.sz_claims.specs.Rule.{view_of, Slot, Kept, Given, turn_at}
use Rattle.sz_claims.proofs.LaneLemmas.{gives_back}
use Rattle.sz_claims.proofs.lanes.give_as.Goals as goal

pub store-requires : goal.store-requires
store-requires g c =
    let key = c.args.shared.now.key in
    let seat = c.args.seat.now in
    let lane = g.C.OfLane.lane in
    let shards = g.C.OfLane.shards in
    let P : ℕ → Me Slot View → Type 0 = λ j me.
    Allows (Kept g.T.Load.died g.T.Load.is_bad key.plan key.lanes) c.args.shared.now.table_id.slots seat.id me j (λ _. 0) (λ _. Given lane shards me) in (
      c.requires.table.0,
      c.requires.table.1,
      subst (λ j. P j seat.me) (sym c.requires.table.2)
          (subst (λ slots. P (turn_at key.plan lane) (view_of seat.me, slots)) (sym c.requires.has_lane.2)
          (gives_back g.T.Load.died g.T.Load.is_bad key.plan key.lanes c.args.shared.now.table_id.slots seat.id (view_of seat.me) lane
          ((view_of seat.me).lent ++ shards) shards c.requires.has_lane.0 c.requires.has_lane.1 refl c.requires.further)),
    )
