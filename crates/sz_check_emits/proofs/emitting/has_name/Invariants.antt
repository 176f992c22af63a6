-- The names that are left decide.
use Rattle.std.proofs.Common.{◌≡◌, drop}
use Rattle.sz_check_rules.specs.Refusals.{has_name}
use Rattle.sz_check_emits.specs.Hidden.{hidden_of}
use Rattle.sz_check_emits.proofs.emitting.has_name.Given as goal

abbrev pub invariant-loop-other : goal.invariant-loop-other
invariant-loop-other l =
    has_name l.name.text (hidden_of (drop l.other-index l.hidden)) ≡ has_name l.name.text (hidden_of l.hidden)
