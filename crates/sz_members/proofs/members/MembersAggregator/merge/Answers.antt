-- The rows of what is kept are those of the emits of both sides.
use Rattle.std.proofs.Common.{◌≡◌, ◌++◌, map, subst}
use Rattle.sz_types.specs.SeenTables.{seen_table}
use Rattle.sz_tabs.specs.Rows.{rows_of}
use Rattle.sz_members.specs.Repeats.{seen_repeated, emits_tallied}
use Rattle.sz_members.proofs.MembersLemmas.{members_joined}
use Rattle.sz_members.proofs.members.MembersAggregator.merge.Goals as goal

pub returns-clause-ok : goal.returns-clause-ok
returns-clause-ok c =
    let table = seen_table c.self.inside.table.now in
    let others = c.other.inside.tally.entries in
    let new = c.put_all.new.tally.entries in
    members_joined _ _ _ _ c.self.view_is c.other.view_is (map seen_repeated new) c.self.inside.room c.requires.same
    (subst (λ es. rows_of table (emits_tallied new) ≡ rows_of table (emits_tallied es ++ emits_tallied others))
    c.reserve.ensures.entries c.put_all.ensures.value.rows)
