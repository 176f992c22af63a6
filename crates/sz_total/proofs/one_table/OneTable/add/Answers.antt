-- The part of the emit's index list took the emit.
use Rattle.std.proofs.Common.{◌-◌, ◌^◌, ap, arith}
use Rattle.sz_types.specs.SeenTables.{seen_table}
use Rattle.sz_total.specs.OneTable.{TableState}
use Rattle.sz_total.proofs.OneTableLemmas.{some_parts, longer_parts, kept_taken}
use Rattle.sz_total.proofs.PartsLemmas.{table_takes}
use Rattle.sz_total.proofs.TotalLemmas.{table_gained}
use Rattle.sz_total.proofs.one_table.OneTable.add.Goals as goal

pub add_to_part-requires-clause-some : goal.add_to_part-requires-clause-some
add_to_part-requires-clause-some c = some_parts c.self.inside.parts.items c.self.invariant.one_or_many

pub add_to_part-requires-clause-of_table : goal.add_to_part-requires-clause-of_table
add_to_part-requires-clause-of_table c =
    let same = ap (λ (s : TableState). s.count) c.self.view_is in
    longer_parts (seen_table c.self.inside.table.now) c.self.inside.count (2 ^ 63 - 1)
    (omega (arith, same, c.requires.room)) c.self.inside.parts.items
    c.self.invariant.aggregates

pub invariant_of-self-2 : goal.invariant_of-self-2
invariant_of-self-2 c =
    kept_taken (seen_table c.self.inside.table.now)
    c.self.inside.count c.args.emit.now c.self.inside.parts.items c.add_to_part.new.parts.items
    c.self.invariant c.in_ok-add_to_part.ensures.ok

pub returns-clause-ok : goal.returns-clause-ok
returns-clause-ok c =
    let table = seen_table c.self.inside.table.now in
    let old = c.self.inside.parts.items in
    let new = c.add_to_part.new.parts.items in
    table_gained table c.self.inside.count c.args.emit.now old new c.args.self.now c.self.view_is
    (table_takes table c.args.emit.now old new c.self.invariant.placed c.in_ok-add_to_part.ensures.ok)
