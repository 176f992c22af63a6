-- The entries so far and those that are left stand after the others.
use Rattle.std.proofs.Common.{◌≡◌, ◌++◌}
use Rattle.sz_total.proofs.in_order.lend_entries.Given as goal

abbrev pub invariant-loop-key : goal.invariant-loop-key
invariant-loop-key l = l.entries.items ++ l.key-iterator ≡ l.initial.entries.items ++ l.part.entries
