-- Each turn passes over one that is less.
use Rattle.std.proofs.Common.{◌∷◌, []}
use Rattle.sz_save.proofs.WalkLemmas.{alone_can}
use Rattle.sz_save.proofs.PassingLemmas.{pass_begins, pass_more, can_behind}
use Rattle.sz_save.proofs.walk.pass_lesser.Goals as goal

pub loop-kept-init : goal.loop-kept-init
loop-kept-init c = record {
  goes = pass_begins c.args.kind c.args.limit c.args.walk.joined c.args.walk.left.items c.args.entry.now;
  can = c.requires.can;
}

pub join_alone-requires : goal.join_alone-requires
join_alone-requires c = record {
  can = alone_can c.args.kind c.loop-kept.left.items (c.args.entry.now ∷ [])
      c.in-Some.kept c.take_lesser.new.left.items c.in-Some.ensures.some.0
      c.loop-kept.invariant.can;
}

pub loop-kept-preserved : goal.loop-kept-preserved
loop-kept-preserved c = record {
  goes = pass_more c.args.kind c.args.limit c.args.walk.joined c.args.walk.left.items c.loop-kept.joined
      c.loop-kept.left.items c.take_lesser.new.left.items c.push.new.self c.args.entry.now c.in-Some.kept
      c.in_ok-both.both c.loop-kept.invariant.goes c.in-Some.ensures.some.0 c.in-Some.ensures.some.1
      c.in_ok-both.ensures.value c.in_ok-both.ensures.few c.in_ok-push.ensures.ok;
  can = can_behind c.args.kind c.loop-kept.left.items c.take_lesser.new.left.items (c.args.entry.now ∷ [])
      c.in-Some.kept c.in-Some.ensures.some.0 c.loop-kept.invariant.can;
}
