-- The copies so far, and the values that are left, are all of them.
use Rattle.std.proofs.Common.{◌≡◌, ◌++◌, map, drop}
use Rattle.sz_value.specs.Seen.{seen}
use Rattle.sz_gen_expr.proofs.constants.copied.Given as goal

abbrev pub invariant-loop-value : goal.invariant-loop-value
invariant-loop-value l = l.list ++ map seen (drop l.value-index l.values) ≡ map seen l.values
