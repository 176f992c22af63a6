-- Those that are joined and those that are left are all.
use Rattle.std.proofs.Common.{◌≡◌, ◌++◌, ◌+◌, length}
use Rattle.std.specs.List.{AllByRecursion}
use Rattle.sz_save.specs.Walk.{joined_entries, CanJoin, HasCountedRows}
use Rattle.sz_save.proofs.entries.join_entries.Given as goal

abbrev pub invariant-loop-left : goal.invariant-loop-left
invariant-loop-left l = record {
  all : l.joined ++ joined_entries l.kind l.limit l.rest.items l.left.items
      ≡ joined_entries l.kind l.limit l.fn.entries l.fn.others;
  can : CanJoin l.kind l.rest.items l.left.items;
  few : AllByRecursion HasCountedRows l.joined;
}

abbrev pub decreases-loop-left : goal.decreases-loop-left
decreases-loop-left l = length l.rest.items + length l.left.items
