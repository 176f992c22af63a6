use Rattle.std.proofs.Common.{◌≡◌, ◌+◌, ◌*◌, map, ap, sym, ◌∙◌, arith}
use Rattle.std.specs.Mem.Slots.{slots_items}
use lib.ListN.{get_elem?}
use Rattle.sz_claims.specs.Known.{ends_in}
use Rattle.sz_claims.specs.Rule.{view_of, lane_data}
use Rattle.sz_claims.proofs.OpeningLemmas.{ended, same_lanes, closes}
use Rattle.sz_claims.proofs.ledger.Ledger.close.Goals as goal

pub take_lanes-requires-clause-home : goal.take_lanes-requires-clause-home
take_lanes-requires-clause-home g c =
    let e = ended g.T.Load.died g.T.Load.is_bad _ _ _ (view_of c.pass.inside.seat.me) _ _ _ _ _ c.close_with-closed.ensures.values.2
    c.pass.invariant.live c.pass.view_is c.requires.first c.requires.all c.requires.home in
    (map (lane_data c.args.pass.ledger.plan) (ends_in c.args.pass e.log).lists, e.lanes)

pub take_lanes-requires-clause-room : goal.take_lanes-requires-clause-room
take_lanes-requires-clause-room g c =
    let slots = c.close_with-closed.ensures.counts.1 in
    let many = c.self.invariant.slots in
    let room = c.self.invariant.room in
    (c.self.invariant.empty, omega arith)

pub returns : goal.returns
returns g c =
    let p = c.args.pass.ledger.plan in
    let ws = slots_items c.close_with-closed.result.words in
    let e = ended g.T.Load.died g.T.Load.is_bad _ _ _ (view_of c.pass.inside.seat.me) _ _ _ _ _ c.close_with-closed.ensures.values.2
    c.pass.invariant.live c.pass.view_is c.requires.first c.requires.all c.requires.home in
    let x = ends_in c.args.pass e.log in
    let shards : p.shards ≡ c.self.inside.setup.plan.shards = ap (λ k. k.plan.shards) (c.requires.of ∙ sym c.self.view_is) in
    let last : get_elem? ws (3 * p.shards + 1) ≡ get_elem? ws (3 * c.shards.result + 1) =
    ap (λ n. get_elem? ws (3 * n + 1)) (shards ∙ sym c.shards.ensures.value) in
    let end = closes p c.args.pass.ledger.lanes ws e.homes x c.take_lanes.new.lanes.items c.copy_words.new.words.items
    c.copy_words-2.new.words.items c.word.result c.least-least_bad.result e.shows (same_lanes _ _ (c.take_lanes.ensures.value ∙ e.lanes))
    (c.copy_words.ensures.value.0 ∙ c.self.invariant.settled ∙ sym shards) c.copy_words.ensures.value.1
    (c.copy_words-2.ensures.value.0 ∙ c.self.invariant.deaths ∙ sym shards) c.copy_words-2.ensures.value.1
    (last ∙ c.word.ensures) c.least-least_bad.ensures.value in
    record {
      value = (
        e.log,
        e.end,
        record {
          lanes = end.lanes;
          settled = c.from_vec.ensures.value ∙ end.settled;
          deaths = c.from_vec-2.ensures.value ∙ end.deaths;
          least_bad = end.least_bad;
        },
      );
    }
