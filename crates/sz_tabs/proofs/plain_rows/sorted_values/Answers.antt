-- A stable sort leaves what is sorted.
use Rattle.std.proofs.Common.{◌∙◌, ap}
use Rattle.sz_value.specs.Order.{compare}
use Rattle.sz_tabs.specs.Sorting.{sorted}
use Rattle.sz_tabs.proofs.PlainLemmas.{values_sorted}
use Rattle.sz_tabs.proofs.plain_rows.sorted_values.Goals as goal

pub returns : goal.returns
returns c = record {
  value = values_sorted c.in_ok-values.values.items c.sort.new.self.items c.in_ok-sort.ensures.sorted
      c.sort.ensures.stable ∙ ap (sorted compare) c.in_ok-values.ensures.value;
}
