-- A table has no more emits than all tables have together.
use Rattle.std.proofs.lemmas.List.{get_or_read}
use Rattle.std.proofs.lemmas.Result.{on_ok_weaker}
use Rattle.sz_total.proofs.BoundedLemmas.{total_within, is_there}
use Rattle.sz_total.proofs.total.Total.rows.Goals as goal

pub returns-clause-within : goal.returns-clause-within
returns-clause-within c =
    let states = c.self.inside.states.items in
    let there = is_there c.self.inside.tables.now c.self.inside.count states
    c.self.invariant.are c.args.self.now c.self.view_is c.args.table c.requires.declared in
    on_ok_weaker c.rows.result
    (total_within c.self.inside.tables.now c.self.inside.count states
    c.self.invariant.are c.args.self.now c.self.view_is c.args.table there
    c.index-states.result.now
    (get_or_read states c.args.table c.index-states.result.now there c.index-states.ensures)) c.rows.ensures.within
