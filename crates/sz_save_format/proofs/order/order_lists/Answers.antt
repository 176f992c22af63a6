-- Lists of values compare as their plain data.
use Rattle.std.proofs.Common.{◌∙◌, sym}
use Rattle.std.specs.Cmp.Derive.Mapped.{lex_map}
use Rattle.sz_value.specs.Order.{compare}
use Rattle.sz_value.specs.Seen.{seen}
use Rattle.sz_tabs.specs.Rows.{compare_indexes}
use Rattle.sz_save_format.proofs.order.order_lists.Goals as goal

pub returns : goal.returns
returns c = record {
  value = c.cmp.ensures ∙ sym (lex_map seen compare c.as_slice.result.now c.as_slice-2.result.now)
      ∙ (λ i. compare_indexes (c.as_slice.ensures.value i) (c.as_slice-2.ensures.value i));
}
