-- The copies so far are those of the front.
use Rattle.std.proofs.Common.{◌≡◌, map, take}
use Rattle.sz_value.specs.Seen.{seen_pair}
use Rattle.sz_machine_cells.specs.PairViews.{seen_pair_views}
use Rattle.sz_machine_cells.proofs.maps.copied.Given as goal

abbrev pub invariant-loop-pair : goal.invariant-loop-pair
invariant-loop-pair l = map seen_pair l.made.items ≡ seen_pair_views (take l.pair-index l.pairs)
