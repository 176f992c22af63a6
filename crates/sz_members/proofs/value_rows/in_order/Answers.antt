-- A stable sort leaves what is sorted.
use Rattle.std.proofs.Common.{◌∙◌, ap}
use Rattle.sz_value.specs.Order.{compare}
use Rattle.sz_tabs.specs.Sorting.{sorted}
use Rattle.sz_members.proofs.ShowingLemmas.{refs_sorted}
use Rattle.sz_members.proofs.value_rows.in_order.Goals as goal

pub returns : goal.returns
returns c = record {
  value = refs_sorted c.in_ok-made.made.items c.sort.new.self.items c.in_ok-sort.ensures.sorted c.sort.ensures.stable
      ∙ ap (sorted compare) c.in_ok-made.ensures.value;
}
