-- What is found so far, and what the variables that are left have, is what all have.
use Rattle.std.proofs.Common.{map}
use Rattle.sz_tree.specs.View.{tree_of}
use Rattle.sz_quant.specs.Seen.{bound_of}
use Rattle.sz_quant.proofs.TurnLemmas.{IsFoundUpTo}
use Rattle.sz_quant.proofs.search.bounds.Given as goal

abbrev pub invariant-loop-number : goal.invariant-loop-number
invariant-loop-number l = IsFoundUpTo (map bound_of l.found.items) l.names (tree_of l.condition) l.number
