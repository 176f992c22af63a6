-- A stable sort by the keys changes nothing of the map.
use Rattle.std.proofs.Common.{rules}
use Rattle.std.proofs.lemmas.Fn.{always_returns_same}
use Rattle.sz_value.proofs.GatherLemmas.{key_less, keys_ordered, sorted_alike}
use Rattle.sz_value.proofs.pairs.sorted.Goals as goal

pub returns : goal.returns
returns c = record {
  value = sorted_alike _ _
      (c.sort_by.ensures.stable key_less keys_ordered (always_returns_same _ _ _ (λ a r f called. search rules)));
}
