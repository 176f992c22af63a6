-- The rows of what is kept are those of what was kept before and the new emit.
use Rattle.std.proofs.Common.{map}
use Rattle.sz_value.specs.Seen.{seen}
use Rattle.sz_members.specs.Repeats.{seen_repeated}
use Rattle.sz_members.proofs.MembersLemmas.{members_gained}
use Rattle.sz_members.proofs.members.MembersAggregator.add.Goals as goal

pub returns-clause-ok : goal.returns-clause-ok
returns-clause-ok c =
    members_gained _ _ c.self.view_is c.self.invariant.kind (map seen_repeated c.hold.new.tally.entries)
    c.self.inside.room (seen c.args.value.now) c.args._weight (c.in_ok-hold.ensures.ok.rows c.self.invariant.came)
