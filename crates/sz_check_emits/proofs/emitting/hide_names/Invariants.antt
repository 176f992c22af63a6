-- What is hidden by now, and the names that are left, are what was hidden and all of them.
use Rattle.std.proofs.Common.{◌≡◌, ◌++◌, drop}
use Rattle.sz_check_rules.specs.EmittingTrees.{texts_of}
use Rattle.sz_check_emits.specs.Hidden.{hidden_of}
use Rattle.sz_check_emits.proofs.emitting.hide_names.Given as goal

abbrev pub invariant-loop-name : goal.invariant-loop-name
invariant-loop-name l =
    hidden_of l.hidden.items ++ texts_of (drop l.name-index l.names) ≡ hidden_of l.fn.hidden.items ++ texts_of l.names
