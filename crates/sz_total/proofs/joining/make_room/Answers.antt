-- Sums have room for each other as they are.
use Rattle.std.proofs.Common.{sym, subst}
use Rattle.sz_total.specs.Joining.{HaveRoomFor}
use Rattle.sz_total.proofs.JoiningLemmas.{room_for_sums}
use Rattle.sz_total.proofs.joining.make_room.Goals as goal

pub returns-then-begin_with_sum-clause-ok : goal.returns-then-begin_with_sum-clause-ok
returns-then-begin_with_sum-clause-ok c =
    subst (λ es. HaveRoomFor es c.args.others.now.entries) (sym c.reserve.ensures.entries)
    (room_for_sums c.args.lists.now.entries c.args.others.now.entries c.requires.alike
    (c.begin_with_sum.ensures.sum c.if-begin_with_sum.true))
