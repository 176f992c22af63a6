-- The keys that are copied and those that are left are the keys from the place on.
use Rattle.std.proofs.Common.{◌≡◌, ◌++◌, map, drop}
use Rattle.std.specs.Map.{keys_of}
use Rattle.sz_value.specs.Seen.{seen}
use Rattle.sz_machine_cells.proofs.map_keys.pair_keys.Given as goal

abbrev pub invariant-loop-place : goal.invariant-loop-place
invariant-loop-place l = map seen l.keys.items ++ drop l.place (keys_of l.pairs) ≡ drop l.n (keys_of l.pairs)
