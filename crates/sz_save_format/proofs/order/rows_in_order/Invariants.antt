-- Those from here on are in order exactly where all are.
use Rattle.std.proofs.Common.{◌≡◌, ◌-◌, drop}
use Rattle.sz_save_format.specs.Entries.{in_order, row_may_follow}
use Rattle.sz_save_format.proofs.order.rows_in_order.Given as goal

abbrev pub invariant-loop-i : goal.invariant-loop-i
invariant-loop-i l = in_order (row_may_follow l.kind) (drop (l.i - 1) l.rows) ≡ in_order (row_may_follow l.kind) l.rows
