-- What is kept so far, and the last ones of what is ahead, are all last ones.
use Rattle.std.proofs.Common.{◌≡◌, ◌++◌, drop}
use Rattle.sz_machine_cells.specs.PairViews.{seen_pair_views, last_ones}
use Rattle.sz_machine_cells.proofs.maps.last_ones.Given as goal

abbrev pub invariant-loop-i : goal.invariant-loop-i
invariant-loop-i l = seen_pair_views l.kept.items ++ last_ones (seen_pair_views (drop l.i l.pairs))
    ≡ last_ones (seen_pair_views l.pairs)
