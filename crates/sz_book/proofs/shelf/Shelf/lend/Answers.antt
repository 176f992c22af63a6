use Rattle.std.proofs.Common.{◌∙◌, true, sym, ap}
use Rattle.sz_book_rules.specs.declared.event.Reply.TheVariants.{Lane}
use Rattle.sz_book.proofs.ShelfLemmas.{home_by, in_place_lent}
use Rattle.sz_book.proofs.shelf.Shelf.lend.Goals as goal

-- the lane was home, and leaves
pub invariant_of-self : goal.invariant_of-self
invariant_of-self g c =
    let h = c.self.inside.ledger in
    let step = c.apply.ensures.applied.step in
    let lent = sym (c.in-Lane-true.is ∙ ap Lane c.in-Lane-true.field-0-test) ∙ step.answer in
    let was = home_by h.plan h.state c.args.lane_no true lent in
    let lanes =
    in_place_lent h.plan h.state c.args.lane_no c.self.inside.homes.items c.self.invariant.lanes step.fits.1 was in
    record {
      lanes = rw (step.next, c.take.ensures.after) lanes;
      empty = c.self.invariant.empty;
      room = c.self.invariant.room;
    }
