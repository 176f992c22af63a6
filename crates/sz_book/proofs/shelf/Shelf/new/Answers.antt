use Rattle.std.proofs.Common.{◌∙◌, arith, ap, length, Some}
use Rattle.std.proofs.lemmas.List.{length-map}
use Rattle.sz_book.specs.Lanes.{LaneData}
use Rattle.sz_book.proofs.ShelfLemmas.{in_place_open}
use Rattle.sz_book.proofs.shelf.Shelf.new.Goals as goal

-- all lanes are home, and have room at the end
pub invariant_of-result : goal.invariant_of-result
invariant_of-result g c =
    let count = c.len.ensures ∙ c.args.lanes.ok.0 in
    let homes = c.in_ok-homes.ensures.value in
    let here = c.in_ok-homes.homes.ok.0 ∙ ap length homes ∙ length-map c.args.lanes.items (λ (l : LaneData). Some l) in
    let room = c.in_ok-spare.ensures.exact in
    let most = c.len-2.ensures ∙ c.args.lanes.ok.0 in
    record {
      lanes = rw (c.in_ok-ledger.ensures.value, homes, count)
          (in_place_open c.args.plan.now c.args.lanes.items c.requires.empty);
      empty = c.in_ok-spare.ensures.len;
      room = omega arith;
    }
