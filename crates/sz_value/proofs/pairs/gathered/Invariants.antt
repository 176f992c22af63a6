-- The pairs so far are those that were put in.
use Rattle.std.proofs.Common.{◌≡◌, [], map}
use Rattle.sz_value.specs.Maps.{with_pairs}
use Rattle.sz_value.specs.Order.{KeysRise}
use Rattle.sz_value.specs.Seen.{seen_pair}
use Rattle.sz_value.proofs.pairs.gathered.Given as goal

abbrev pub invariant-loop-pair : goal.invariant-loop-pair
invariant-loop-pair l = record {
  value : map seen_pair l.made.items ≡ with_pairs [] (map seen_pair l.yielded);
  rising : KeysRise (map seen_pair l.made.items);
}
