use Rattle.std.proofs.Common.{◌++◌, ◌∷◌, [], List, Some, None, ap, sym, ◌∙◌, arith}
use Rattle.std.proofs.lemmas.List.{append-nil}
use Rattle.std.proofs.lemmas.Grind.{common_steps}
use Rattle.sz_book.specs.Lanes.{LaneData}
use Rattle.sz_book.specs.Books.{lanes_home}
use Rattle.sz_book.proofs.ShelfLemmas.{one_more_home}
use Rattle.sz_book.proofs.shelf.take_home.Goals as goal

-- the lane of this home is taken
pub loop-home-preserved-in-Some-home : goal.loop-home-preserved-in-Some-home
loop-home-preserved-in-Some-home g c =
    let before : List LaneData = c.args.lanes.now.items in
    let more = one_more_home before c.loop-home.lanes.items c.loop-home.yielded (Some c.in-Some-home.lane)
    c.loop-home.invariant.1 in (
      grind (arith, common_steps),
      c.push_reserved.ensures.items ∙ more
          ∙ ap (λ home. before ++ lanes_home (c.loop-home.yielded ++ home ∷ [])) (sym c.in-Some-home.is),
      grind (arith, common_steps),
      grind (arith, common_steps),
    )

-- no lane is home here
pub loop-home-preserved : goal.loop-home-preserved
loop-home-preserved g c =
    let before : List LaneData = c.args.lanes.now.items in
    let taken : List LaneData = c.loop-home.lanes.items in
    let more = one_more_home before taken c.loop-home.yielded None c.loop-home.invariant.1 in (
      grind (arith, common_steps),
      sym (append-nil taken) ∙ more
          ∙ ap (λ home. before ++ lanes_home (c.loop-home.yielded ++ home ∷ [])) (sym c.in_default.is),
      grind (arith, common_steps),
      grind (arith, common_steps),
    )
