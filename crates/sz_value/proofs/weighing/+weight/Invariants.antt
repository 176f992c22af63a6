-- What is weighed so far, and what is ahead, is the whole; what is weighed so far is at most the greatest number.
use Rattle.std.proofs.Common.{◌≡◌, ◌+◌, ◌-◌, ◌^◌, ◌≤◌, drop}
use Rattle.std.specs.Prelude.{min}
use Rattle.sz_value.proofs.WeightLemmas.{list_weight, pairs_weight}
use Rattle.sz_value.proofs.weighing.+weight.Given as goal

abbrev pub invariant-weight_of_list-loop-value : goal.invariant-weight_of_list-loop-value
invariant-weight_of_list-loop-value l =
    (min (l.total + list_weight (drop l.value-index l.value-items)) (2 ^ 64 - 1)
    ≡ min (list_weight l.value-items) (2 ^ 64 - 1)) × (l.total ≤ 2 ^ 64 - 1)

abbrev pub invariant-weight_of_pairs-loop-place : goal.invariant-weight_of_pairs-loop-place
invariant-weight_of_pairs-loop-place l =
    (min (l.total + pairs_weight (drop l.place l.pairs)) (2 ^ 64 - 1) ≡ min (pairs_weight l.pairs) (2 ^ 64 - 1))
    × (l.total ≤ 2 ^ 64 - 1)
