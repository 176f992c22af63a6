-- A stable sort leaves what is sorted.
use Rattle.std.proofs.Common.{◌∙◌, ap}
use Rattle.sz_tabs.specs.Sorting.{sorted}
use Rattle.sz_tabs.specs.Rows.{least_first}
use Rattle.sz_tabs.proofs.PlainLemmas.{least_sorted}
use Rattle.sz_tabs.proofs.plain_rows.by_least.Goals as goal

pub returns : goal.returns
returns c = record {
  value =
      least_sorted c.in_ok-rising.rising.items c.sort.new.self.items c.in_ok-sort.ensures.sorted c.sort.ensures.stable
      ∙ ap (sorted least_first) c.in_ok-rising.ensures.value;
}
