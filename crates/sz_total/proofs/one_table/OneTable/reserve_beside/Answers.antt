-- Room alone is made, and leaves what the table keeps to.
use Rattle.std.proofs.Common.{◌∙◌, ap, subst, sym}
use Rattle.sz_types.specs.SeenTables.{seen_table}
use Rattle.sz_total.specs.OneTable.{TableState}
use Rattle.sz_total.specs.Parts.{ArePartsOf}
use Rattle.sz_total.proofs.OneTableLemmas.{parts_alike, kept_roomier, changes_roomier}
use Rattle.sz_total.proofs.one_table.OneTable.reserve_beside.Goals as goal

pub reserve_parts-requires-clause-alike : goal.reserve_parts-requires-clause-alike
reserve_parts-requires-clause-alike c =
    let table = seen_table c.self.inside.table.now in
    let same = ap (λ (s : TableState). s.table) c.other.view_is ∙ c.requires.same
    ∙ sym (ap (λ (s : TableState). s.table) c.self.view_is) in
    parts_alike table c.self.inside.count c.other.inside.count c.self.inside.parts.items c.other.inside.parts.items
    c.self.invariant.aggregates
    (subst (λ t. ArePartsOf t c.other.inside.count c.other.inside.parts.items) same c.other.invariant.aggregates)

pub invariant_of-self : goal.invariant_of-self
invariant_of-self c =
    kept_roomier (seen_table c.self.inside.table.now)
    c.self.inside.count c.self.inside.parts.items c.reserve_parts.new.parts.items c.self.invariant
    c.reserve_parts.ensures.kept

pub returns-clause-kept : goal.returns-clause-kept
returns-clause-kept c =
    changes_roomier (seen_table c.self.inside.table.now)
    c.self.inside.count c.self.inside.parts.items c.reserve_parts.new.parts.items c.args.self.now
    c.self.invariant c.reserve_parts.ensures.kept c.self.view_is
