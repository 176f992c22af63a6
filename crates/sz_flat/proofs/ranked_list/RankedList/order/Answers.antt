-- Where the ranks differ, so do the lists.
use Rattle.std.proofs.Common.{◌∙◌}
use Rattle.std.specs.Cmp.Lexicographic.{slice_cmp}
use Rattle.sz_value.specs.Order.{compare}
use Rattle.sz_flat.proofs.RankLemmas.{ranks_decide}
use Rattle.sz_flat.proofs.ranked_list.RankedList.order.Goals as goal

pub returns-in_default : goal.returns-in_default
returns-in_default c =
    let one = c.self.inside in
    let other = c.other.inside in
    record {
      value = ranks_decide one.list.now other.list.now one.rank other.rank c.self.invariant c.other.invariant
          c.cmp.result c.cmp.ensures c.in_default.not-Equal
          ∙ (λ i. slice_cmp compare (c.self.view_is i) (c.other.view_is i));
    }
