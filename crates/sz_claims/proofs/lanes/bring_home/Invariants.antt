use Rattle.std.proofs.Common.{drop, length}
use Rattle.sz_claims.specs.Rule.{view_of, slots_out, list_in_hand}
use Rattle.sz_claims.proofs.lanes.bring_home.Given as goal

abbrev pub ghosts-give_as : goal.ghosts-give_as
ghosts-give_as g a = record { lane = a.lane_no; shards = drop (length (view_of a.seat.now.me).lent) (list_in_hand (slots_out a.seat.now.me)) }
