-- What is paired so far, and the key that waits, are the front.
use Rattle.std.proofs.Common.{take}
use Rattle.std.specs.Option.{option_map}
use Rattle.sz_builtin.specs.Views.{seen_view}
use Rattle.sz_machine_cells.specs.Results.{ArePaired, defined_of}
use Rattle.sz_machine_cells.specs.PairViews.{seen_pair_views}
use Rattle.sz_machine_cells.proofs.maps.pair_views.Given as goal

abbrev pub invariant-loop-cell : goal.invariant-loop-cell
invariant-loop-cell l = ArePaired (defined_of (take l.cell-index l.cells)) (seen_pair_views l.pairs.items)
    (option_map seen_view l.waiting)
