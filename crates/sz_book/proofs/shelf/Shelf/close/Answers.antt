use Rattle.std.proofs.Common.{◌++◌, ◌∙◌, sym, ap}
use Rattle.std.proofs.lemmas.List.{nil_from_length}
use Rattle.sz_book.specs.Books.{lanes_home}
use Rattle.sz_book.proofs.shelf.Shelf.close.Goals as goal

-- no lane stands in front of those that were home
pub returns-clause-left : goal.returns-clause-left
returns-clause-left g c =
    let spare = c.self.inside.spare in
    let none = nil_from_length spare.items (sym spare.ok.0 ∙ c.self.invariant.empty) in
    rw (← c.self.view_is) (record {
      replays = c.show-least_bad.ensures.kept;
      placed = c.self.invariant.lanes;
      lanes_are = c.take_home.ensures.lanes ∙ ap (λ l. l ++ lanes_home c.self.inside.homes.items) none;
      shows = rw (c.from_vec.ensures.value, c.from_vec-2.ensures.value) c.show-least_bad.ensures.shows;
    })
