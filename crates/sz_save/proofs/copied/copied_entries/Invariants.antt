-- The index lists so far are copied.
use Rattle.std.proofs.Common.{◌≡◌, take}
use Rattle.sz_save.proofs.copied.copied_entries.Given as goal

abbrev pub invariant-loop-entry : goal.invariant-loop-entry
invariant-loop-entry l = l.copied ≡ take l.entry-index l.entry-items
