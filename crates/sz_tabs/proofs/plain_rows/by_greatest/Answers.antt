-- A stable sort leaves what is sorted.
use Rattle.std.proofs.Common.{◌∙◌, ap}
use Rattle.sz_tabs.specs.Sorting.{sorted}
use Rattle.sz_tabs.specs.Rows.{greatest_first}
use Rattle.sz_tabs.proofs.PlainLemmas.{greatest_sorted}
use Rattle.sz_tabs.proofs.plain_rows.by_greatest.Goals as goal

pub returns : goal.returns
returns c = record {
  value = greatest_sorted c.in_ok-falling.falling.items c.sort.new.self.items c.in_ok-sort.ensures.sorted
      c.sort.ensures.stable ∙ ap (sorted greatest_first) c.in_ok-falling.ensures.value;
}
