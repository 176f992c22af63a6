use Rattle.std.proofs.Common.{[]}
use Rattle.sz_claims.proofs.lanes.take_out.Given as goal

abbrev pub ghosts-lend_as : goal.ghosts-lend_as
ghosts-lend_as g a = record { lane = a.lane_no; shards = [] }
