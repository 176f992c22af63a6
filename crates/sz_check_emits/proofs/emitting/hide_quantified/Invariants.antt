-- What is hidden by now, and the names of the quantifiers that are left, are what was hidden and those of all.
use Rattle.std.proofs.Common.{◌≡◌, ◌++◌, drop, map}
use Rattle.sz_tree.specs.View.{quantifier_of}
use Rattle.sz_check_rules.specs.EmittingTrees.{quantified_names}
use Rattle.sz_check_emits.specs.Hidden.{hidden_of}
use Rattle.sz_check_emits.proofs.emitting.hide_quantified.Given as goal

abbrev pub invariant-loop-quantifier : goal.invariant-loop-quantifier
invariant-loop-quantifier l =
    hidden_of l.hidden.items ++ quantified_names l.inside (map quantifier_of (drop l.quantifier-index l.quantifiers))
    ≡ hidden_of l.fn.hidden.items ++ quantified_names l.inside (map quantifier_of l.quantifiers)
