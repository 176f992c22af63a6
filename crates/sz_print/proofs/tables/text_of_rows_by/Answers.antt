-- Each turn appends the lines of one table.
use Rattle.sz_total.specs.States.{shown}
use Rattle.sz_print.proofs.TablesLemmas.{text_more}
use Rattle.sz_print.proofs.tables.text_of_rows_by.Goals as goal

pub loop-number-preserved : goal.loop-number-preserved
loop-number-preserved g c =
    text_more c.as_slice-table-items.result.now (shown c.args.total.now) c.loop-number.number c.loop-number.text.items
    c.push_by.new.out.items c.table-item.result c.in_ok-rows.rows c.loop-number-test.true c.table-item.is
    c.in_ok-rows.ensures.value c.in_ok-push_by.ensures.value c.loop-number.invariant
