-- What is summed so far, and what is ahead, is the whole.
use Rattle.std.proofs.Common.{◌≡◌, ◌+◌, drop}
use Rattle.sz_machine_cells.specs.PairViews.{seen_pair_views, pairs_weight}
use Rattle.sz_machine_cells.proofs.maps.sum_within.Given as goal

abbrev pub invariant-loop-pair : goal.invariant-loop-pair
invariant-loop-pair l = l.sum + pairs_weight (seen_pair_views (drop l.pair-index l.pairs))
    ≡ l.fn.first + pairs_weight (seen_pair_views l.pairs)
