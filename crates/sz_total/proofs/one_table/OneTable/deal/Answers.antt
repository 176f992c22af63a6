-- The only part is dealt out, where there is no other.
use Rattle.sz_types.specs.SeenTables.{seen_table}
use Rattle.sz_total.proofs.OneTableLemmas.{kept_dealt, changes_dealt}
use Rattle.sz_total.proofs.one_table.OneTable.deal.Goals as goal

pub invariant_of-self : goal.invariant_of-self
invariant_of-self c =
    kept_dealt (seen_table c.self.inside.table.now)
    c.self.inside.count c.self.inside.parts.items c.deal_out.new.parts.items c.self.invariant
    c.in_ok-deal_out.ensures.ok

pub returns-in_ok-deal_out-clause-kept : goal.returns-in_ok-deal_out-clause-kept
returns-in_ok-deal_out-clause-kept c =
    changes_dealt (seen_table c.self.inside.table.now)
    c.self.inside.count c.self.inside.parts.items c.deal_out.new.parts.items c.args.self.now
    c.in_ok-deal_out.ensures.ok c.self.view_is
