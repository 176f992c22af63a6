use Rattle.std.proofs.Common.{[], sym, subst}
use Rattle.sz_book_rules.specs.Machine.{LedgerState}
use Rattle.sz_book.specs.Books.{AreInPlace}
use Rattle.sz_book.proofs.ShelfLemmas.{in_place_asked}
use Rattle.sz_book.proofs.shelf.Shelf.ask.Goals as goal

pub invariant_of-self : goal.invariant_of-self
invariant_of-self g c =
    let h = c.self.inside.ledger in
    let lanes = in_place_asked h.plan h.state c.args.event.now []
    c.self.inside.homes.items c.requires.plain c.self.invariant.lanes in
    record {
      lanes = subst (λ (x : LedgerState). AreInPlace x c.self.inside.homes.items)
          (sym c.apply.ensures.applied.step.next) lanes;
      empty = c.self.invariant.empty;
      room = c.self.invariant.room;
    }
