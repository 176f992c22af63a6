-- Those from here on rise exactly where all do.
use Rattle.std.proofs.Common.{◌≡◌, ◌-◌, drop}
use Rattle.sz_save_format.specs.Entries.{in_order, entry_may_follow}
use Rattle.sz_save_format.proofs.order.entries_rise.Given as goal

abbrev pub invariant-loop-i : goal.invariant-loop-i
invariant-loop-i l = in_order entry_may_follow (drop (l.i - 1) l.entries) ≡ in_order entry_may_follow l.entries
