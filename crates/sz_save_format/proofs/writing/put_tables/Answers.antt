-- Each table is appended after those before it.
use Rattle.std.proofs.Common.{map, arith}
use Rattle.std.proofs.lemmas.List.{length-map}
use Rattle.sz_types.specs.SeenTables.{seen_table}
use Rattle.sz_save_format.proofs.WritingLemmas.{seen_at, table_appended, tables_end}
use Rattle.sz_save_format.proofs.writing.put_tables.Goals as goal

pub loop-i-preserved : goal.loop-i-preserved
loop-i-preserved c =
    let decls = c.args.decls.now in
    let tables = c.args.tables.now in
    let i = c.loop-i.i in
    let long = length-map decls seen_table in
    let less = c.loop-i-test.true in
    table_appended (map seen_table decls) tables i
    (seen_table c.index-decls-i.result) c.index-tables-i.result c.args.out.now.items c.loop-i.out.items
    c.put_table.new.out.items (omega (arith, less, long)) (omega (arith, less, c.requires.as_many))
    (seen_at seen_table decls i c.index-decls-i.result c.index-decls-i.is)
    c.index-tables-i.is c.loop-i.invariant c.in_ok-put_table.ensures.value

pub returns : goal.returns
returns c =
    let decls = c.args.decls.now in
    let long = length-map decls seen_table in
    let last = c.loop-i-test.false in
    record {
      value = tables_end (map seen_table decls) c.args.tables.now c.loop-i.i c.args.out.now.items c.loop-i.out.items
          (omega (arith, last, long)) c.loop-i.invariant;
    }
