-- A stable sort leaves what is sorted.
use Rattle.std.proofs.Common.{◌∙◌, ap}
use Rattle.sz_tabs.specs.Sorting.{sorted}
use Rattle.sz_extreme.specs.Ranks.{by_rank}
use Rattle.sz_extreme.proofs.HeapLemmas.{ranks_sorted}
use Rattle.sz_extreme.proofs.ranked_rows.in_order.Goals as goal

pub returns : goal.returns
returns c = record {
  value = ranks_sorted c.in_ok-made.made.items c.sort.new.self.items c.in_ok-sort.ensures.sorted c.sort.ensures.stable
      ∙ ap (sorted by_rank) c.in_ok-made.ensures.value;
}
