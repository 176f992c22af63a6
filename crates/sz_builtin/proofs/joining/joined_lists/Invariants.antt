-- The list has the values of the first and those copied so far of the second.
use Rattle.std.proofs.Common.{◌≡◌, ◌++◌, map, take}
use Rattle.sz_value.specs.Seen.{seen}
use Rattle.sz_builtin.proofs.joining.joined_lists.Given as goal

abbrev pub invariant-loop-value : goal.invariant-loop-value
invariant-loop-value l = l.list ≡ l.a ++ map seen (take l.value-index l.value-items)
