-- The only part takes each emit, and else that with its number.
use Rattle.std.proofs.Common.{◌≡◌, length, subst, arith, rules}
use Rattle.std.proofs.lemmas.Result.{on_ok_weaker}
use Rattle.sz_types.specs.SeenTables.{seen_table}
use Rattle.sz_total.specs.Parts.{TakesEmitAt}
use Rattle.sz_total.proofs.OneTableLemmas.{part_of_table, only_part}
use Rattle.sz_total.proofs.parts.add_to_part.Goals as goal

pub add_to_first-requires-clause-of_table : goal.add_to_first-requires-clause-of_table
add_to_first-requires-clause-of_table c =
    part_of_table (seen_table c.args.table.now) _ 0 c.args.parts.now.items c.requires.some c.requires.of_table

pub add_spelled-requires-clause-of_table : goal.add_spelled-requires-clause-of_table
add_spelled-requires-clause-of_table c =
    part_of_table (seen_table c.args.table.now) _ c.place_of-at.result c.args.parts.now.items
    (omega (arith, c.place_of-at.ensures.within)) c.requires.of_table

pub returns-then-len-eq1-clause-ok : goal.returns-then-len-eq1-clause-ok
returns-then-len-eq1-clause-ok c =
    let one : length c.args.parts.now.items ≡ 1 = search (rules, arith) in
    on_ok_weaker c.add_to_first.result
    (λ takes. subst
    (λ at. TakesEmitAt (seen_table c.args.table.now) c.args.emit.now at
    c.args.parts.now.items c.add_to_first.new.parts.items)
    (only_part c.args.parts.now.items c.args.emit.now.indexes one) takes)
    c.add_to_first.ensures.ok
