-- Each turn appends the lines of one table.
use Rattle.std.proofs.Common.{◌∙◌, [], sym, slice_index_or}
use Rattle.std.proofs.lemmas.Option.{get_or_from_slice_get}
use Rattle.sz_print.proofs.TablesLemmas.{text_more}
use Rattle.sz_print.proofs.tables.text_rows.Goals as goal

pub loop-number-preserved : goal.loop-number-preserved
loop-number-preserved c =
    text_more c.as_slice-table-items.result.now (λ n. slice_index_or c.args.tables.now n [])
    c.loop-number.number c.loop-number.text.items
    c.push_table.new.out.items c.table-item.result c.as_slice.result.now c.loop-number-test.true c.table-item.is
    (c.as_slice.ensures.value
    ∙ sym (get_or_from_slice_get c.args.tables.now c.loop-number.number c.get.result.now [] c.get.ensures.value))
    c.in_ok-push_table.ensures.value c.loop-number.invariant
