-- The laws are those of the rows of each table, table by table.
use Rattle.sz_print.proofs.OrderLemmas.{text_in_any_order, merged_either_way, merged_in_any_groups}
use Rattle.sz_print.proofs.laws.text_forgets_the_order.Goals as goal

pub returns : goal.returns
returns c = record {
  emits = text_in_any_order c.tables_forget_the_order.ensures.same;
  either = merged_either_way c.tables_forget_the_order.ensures.same;
  groups = merged_in_any_groups;
}
