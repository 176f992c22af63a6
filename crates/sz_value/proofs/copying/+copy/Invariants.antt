-- What is copied so far is the front.
use Rattle.std.proofs.Common.{◌≡◌, map, take}
use Rattle.sz_value.specs.Seen.{seen, seen_pair}
use Rattle.sz_value.proofs.copying.+copy.Given as goal

abbrev pub invariant-copy_list-loop-value : goal.invariant-copy_list-loop-value
invariant-copy_list-loop-value l = map seen l.made.items ≡ map seen (take l.value-index l.value-items)

abbrev pub invariant-copy_pairs-loop-place : goal.invariant-copy_pairs-loop-place
invariant-copy_pairs-loop-place l = map seen_pair l.made.items ≡ take l.place l.pairs
