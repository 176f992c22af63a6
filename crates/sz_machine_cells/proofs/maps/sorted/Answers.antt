-- A stable sort by the keys changes nothing of the map.
use Rattle.std.proofs.Common.{rules}
use Rattle.std.proofs.lemmas.Fn.{always_returns_same}
use Rattle.sz_machine_cells.proofs.PairLemmas.{key_less, keys_ordered, sorted_alike, dont_fall}
use Rattle.sz_machine_cells.proofs.maps.sorted.Goals as goal

pub returns : goal.returns
returns c = record {
  value = sorted_alike _ _ (c.in_ok-sort_by.ensures.stable key_less keys_ordered
      (always_returns_same _ _ _ (λ a r f called. search rules)));
  rest = dont_fall _ (c.in_ok-sort_by.ensures.sorted key_less keys_ordered
      (always_returns_same _ _ _ (λ a r f called. search rules)));
}
