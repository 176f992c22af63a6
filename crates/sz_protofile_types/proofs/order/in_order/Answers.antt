use Rattle.std.proofs.Common.{rules, of_calls}
use Rattle.std.proofs.lemmas.Fn.{always_returns_same}
use Rattle.std.proofs.lemmas.List.Sorted.{IsNonDecreasingBy-from_sort}
use Rattle.sz_protofile_types.proofs.OrderLemmas.{rank_of, sort_keeps}
use Rattle.sz_protofile_types.proofs.order.in_order.Goals as goal

pub returns : goal.returns
returns c =
    let r = c.args.ranks.now in
    let ordered = c.sort_by_cached_key.new.self.items in
    record {
      value = record {
        rising = IsNonDecreasingBy-from_sort (rank_of r) ordered
            (c.in_ok-sort_by_cached_key.ensures.sorted (rank_of r)
            (always_returns_same _ _ _ (λ a r f k. search (rules, of_calls))));
        same = sort_keeps r c.args.fields.items ordered
            (c.in_ok-sort_by_cached_key.ensures.stable (rank_of r)
            (always_returns_same _ _ _ (λ a r f k. search (rules, of_calls))));
      };
    }
