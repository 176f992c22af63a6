-- The tables so far and those that are left are all.
use Rattle.std.proofs.Common.{◌*◌, ◌^◌}
use Rattle.sz_total.specs.States.{shown}
use Rattle.sz_save.proofs.SavingLemmas.{IsShownUpTo}
use Rattle.sz_save.proofs.saving.tables_shown.Given as goal

abbrev pub invariant-loop-number : goal.invariant-loop-number
invariant-loop-number l = IsShownUpTo l.decls (shown l.total) (2 ^ 63 * l.total.count) l.number l.tables
