-- Both are dealt out alike, and then room is made.
use Rattle.sz_total.proofs.OneTableLemmas.{changes_both}
use Rattle.sz_total.proofs.one_table.OneTable.reserve.Goals as goal

pub returns-clause-kept : goal.returns-clause-kept
returns-clause-kept c =
    changes_both c.args.self.now c.deal_beside.new.self c.reserve_beside.new.self c.deal_beside.ensures.kept
    c.reserve_beside.ensures.kept
