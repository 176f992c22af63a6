-- Only one order of the index lists is sorted, since no two are the same.
use Rattle.std.proofs.Common.{rules}
use Rattle.std.proofs.lemmas.Fn.{always_returns_same}
use Rattle.sz_total.proofs.KeyLemmas.{entries_less, entries_ordered, sorts_all}
use Rattle.sz_total.proofs.in_order.merge_pieces.Goals as goal

pub returns : goal.returns
returns c = record {
  ok = sorts_all c.args.entries.now.items c.sort_by.new.self.items c.sort_by.ensures.permutation
      (c.in_ok-sort_by.ensures.sorted entries_less entries_ordered
      (always_returns_same _ _ _ (λ a r f called. search rules)));
}
