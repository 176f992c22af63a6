-- What is copied so far is the front.
use Rattle.std.proofs.Common.{◌≡◌, map, take}
use Rattle.sz_value.specs.Seen.{seen}
use Rattle.sz_builtin.proofs.slicing.copies.Given as goal

abbrev pub invariant-loop-value : goal.invariant-loop-value
invariant-loop-value l = l.list ≡ map seen (take l.value-index l.values)
