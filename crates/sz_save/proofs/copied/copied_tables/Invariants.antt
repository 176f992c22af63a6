-- The tables so far are copied.
use Rattle.std.proofs.Common.{◌≡◌, take}
use Rattle.sz_save.proofs.copied.copied_tables.Given as goal

abbrev pub invariant-loop-entries : goal.invariant-loop-entries
invariant-loop-entries l = l.copied ≡ take l.entries-index l.entries-items
