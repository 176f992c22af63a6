use Rattle.std.proofs.Common.{sym, subst}
use Rattle.sz_scope.specs.Chain.{HasRoomOf}
use Rattle.sz_scope.proofs.SoundLemmas.{room_more}
use Rattle.sz_scope.proofs.chain.make_room.Goals as goal

-- no entry has a name past those that were counted
pub returns-in_ok-push-clause-kept : goal.returns-in_ok-push-clause-kept
returns-in_ok-push-clause-kept c =
    subst (HasRoomOf c.args.newest.now.items) (sym (c.in_ok-push.ensures.items)) (room_more c.args.newest.now.items)
