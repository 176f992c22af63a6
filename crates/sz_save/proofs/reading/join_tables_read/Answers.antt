-- Each turn reads one table more, and joins it to what is kept of it.
use Rattle.std.proofs.Common.{◌∙◌, sym, arith, true≢false}
use Rattle.std.proofs.lemmas.Result.{err_from_is_err_and}
use Rattle.sz_types.specs.SeenTables.{seen_table}
use Rattle.sz_save.proofs.TablesReadLemmas.{length_stops, other_count, tables_begin, tables_there, table_takes, table_stops, tables_go, tables_end}
use Rattle.sz_save.proofs.reading.join_tables_read.Goals as goal

pub returns-in_err-count-clause-stopped : goal.returns-in_err-count-clause-stopped
returns-in_err-count-clause-stopped c =
    let p = err_from_is_err_and c.from_residual.result c.from_residual.ensures.1 in
    rw (p.1, p.2) (length_stops c.args.bound c.args.flat.now c.args.decls.now c.args.tables c.in_err-count.field-0.0
    c.in_err-count.ensures.value)

pub returns-then-not-are_as_many-clause-stopped : goal.returns-then-not-are_as_many-clause-stopped
returns-then-not-are_as_many-clause-stopped c =
    other_count c.args.bound c.args.flat.now c.args.decls.now c.args.tables c.in_ok-count.count c.in_ok-count.rest.now
    c.in_ok-count.ensures.value
    (λ same. true≢false (sym (c.are_as_many.ensures.value.1 same) ∙ c.if-not-are_as_many.true))

pub loop-i-init : goal.loop-i-init
loop-i-init c =
    tables_begin c.args.bound c.args.flat.now c.args.decls.now c.args.tables c.in_ok-count.count
    c.in_ok-count.rest.now c.new-joined.result c.from_vec-left.result.items
    c.in_ok-count.ensures.value (c.are_as_many.ensures.value.0 c.if-not-are_as_many.false) c.new-joined.ensures.value
    (c.from_vec-left.ensures.items ∙ c.into_vec.ensures.value) c.requires.can

pub take_table-kept-requires : goal.take_table-kept-requires
take_table-kept-requires c = record {
  some = tables_there c.args.bound c.args.flat.now c.args.decls.now c.args.tables c.loop-i.i c.loop-i.rest.now
      c.loop-i.joined c.loop-i.left.items
      c.loop-i.invariant (omega (arith, c.loop-i-test.true, c.len-i-end.ensures.value));
}

pub join_table_read-requires : goal.join_table_read-requires
join_table_read-requires c = record {
  can = table_takes c.args.bound c.args.flat.now c.args.decls.now c.args.tables c.loop-i.i c.loop-i.rest.now
      c.loop-i.joined c.loop-i.left.items
      c.loop-i.invariant (omega (arith, c.loop-i-test.true, c.len-i-end.ensures.value))
      (seen_table c.get.result.now) c.get.ensures.value
      c.take_table-kept.result c.take_table-kept.new.tables.items c.take_table-kept.ensures.value;
}

pub returns-in_err-rows-clause-stopped : goal.returns-in_err-rows-clause-stopped
returns-in_err-rows-clause-stopped c =
    let p = err_from_is_err_and c.from_residual-in_err-rows.result c.from_residual-in_err-rows.ensures.1 in
    rw (p.1, p.2) (table_stops c.args.bound c.args.flat.now c.args.decls.now c.args.tables c.loop-i.i
    c.loop-i.rest.now c.loop-i.joined c.loop-i.left.items
    c.loop-i.invariant (omega (arith, c.loop-i-test.true, c.len-i-end.ensures.value))
    (seen_table c.get.result.now) c.get.ensures.value c.in_err-rows.field-0.0 c.in_err-rows.ensures.stopped)

pub loop-i-preserved : goal.loop-i-preserved
loop-i-preserved c =
    tables_go c.args.bound c.args.flat.now c.args.decls.now c.args.tables c.loop-i.i c.loop-i.rest.now c.loop-i.joined
    c.loop-i.left.items c.loop-i.invariant (omega (arith, c.loop-i-test.true, c.len-i-end.ensures.value))
    (seen_table c.get.result.now) c.get.ensures.value c.take_table-kept.result c.take_table-kept.new.tables.items
    c.take_table-kept.ensures.value c.in_ok-rows.rows c.in_ok-rows.after.now c.push.new.self
    c.in_ok-rows.ensures.value c.in_ok-push.ensures.ok

pub returns-clause-value : goal.returns-clause-value
returns-clause-value c =
    tables_end c.args.bound c.args.flat.now c.args.decls.now c.args.tables c.loop-i.i c.loop-i.rest.now
    c.loop-i.joined c.loop-i.left.items
    c.loop-i.invariant (omega (arith, c.loop-i-test.false, c.len-i-end.ensures.value))
