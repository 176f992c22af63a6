-- No table so far has too many levels.
use Rattle.std.proofs.Common.{◌≡◌, map, drop}
use Rattle.sz_core.specs.Programs.{tables_of}
use Rattle.sz_core.specs.View.{item_of}
use Rattle.szl.specs.Savable.{first_high}
use Rattle.szl.proofs.savable.first_high.Given as goal

abbrev pub invariant-loop-item : goal.invariant-loop-item
invariant-loop-item l = first_high (tables_of (map item_of (drop l.item-index l.items))) ≡ first_high (tables_of (map item_of l.items))
