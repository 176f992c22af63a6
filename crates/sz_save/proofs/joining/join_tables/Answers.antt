-- Each turn takes a table of either side, and joins them.
use Rattle.std.proofs.Common.{arith}
use Rattle.sz_types.specs.SeenTables.{seen_table}
use Rattle.sz_save.proofs.JoinLemmas.{table_can, tables_more, tables_end}
use Rattle.sz_save.proofs.TakenLemmas.{taken_at, some_left}
use Rattle.sz_save.proofs.joining.join_tables.Goals as goal

pub take_table-rows-requires : goal.take_table-rows-requires
take_table-rows-requires c = record {
  some = some_left c.args.tables c.loop-i.rest.items c.loop-i.i c.loop-i.invariant.rest
      (omega (arith, c.loop-i-test.true, c.len-i-end.ensures.value, c.requires.as_many));
}

pub take_table-more-requires : goal.take_table-more-requires
take_table-more-requires c = record {
  some = some_left c.args.others c.loop-i.left.items c.loop-i.i c.loop-i.invariant.left
      (omega (arith, c.loop-i-test.true, c.len-i-end.ensures.value, c.requires.as_many_others));
}

pub join_table-requires : goal.join_table-requires
join_table-requires c =
    let own = taken_at c.args.tables c.loop-i.rest.items c.take_table-rows.new.tables.items c.loop-i.i
    c.take_table-rows.result c.loop-i.invariant.rest c.take_table-rows.ensures.value in
    let theirs = taken_at c.args.others c.loop-i.left.items c.take_table-more.new.tables.items c.loop-i.i
    c.take_table-more.result c.loop-i.invariant.left c.take_table-more.ensures.value in
    record {
      can = table_can c.args.decls.now c.args.tables c.args.others c.loop-i.i (seen_table c.get.result.now)
          c.take_table-rows.result c.take_table-more.result c.get.ensures.value own.0 theirs.0 c.requires.can;
    }

pub loop-i-preserved : goal.loop-i-preserved
loop-i-preserved c =
    let own = taken_at c.args.tables c.loop-i.rest.items c.take_table-rows.new.tables.items c.loop-i.i
    c.take_table-rows.result c.loop-i.invariant.rest c.take_table-rows.ensures.value in
    let theirs = taken_at c.args.others c.loop-i.left.items c.take_table-more.new.tables.items c.loop-i.i
    c.take_table-more.result c.loop-i.invariant.left c.take_table-more.ensures.value in
    let more = tables_more c.args.decls.now c.args.tables c.args.others c.loop-i.i (seen_table c.get.result.now)
    c.take_table-rows.result c.take_table-more.result c.in_ok-both.both c.loop-i.joined c.push.new.self
    c.get.ensures.value own.0 theirs.0 c.in_ok-both.ensures.value c.in_ok-both.ensures.counted
    c.in_ok-push.ensures.ok (c.loop-i.invariant.joined, c.loop-i.invariant.counted) in
    record { joined = more.0; counted = more.1; rest = own.1; left = theirs.1 }

pub returns : goal.returns
returns c = record {
  value = tables_end c.args.decls.now c.args.tables c.args.others c.loop-i.i c.loop-i.joined c.requires.as_many
      c.requires.as_many_others
      (omega (arith, c.loop-i-test.false, c.len-i-end.ensures.value)) c.loop-i.invariant.joined;
  counted = c.loop-i.invariant.counted;
}
