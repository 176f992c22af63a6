-- So many cells are moved as the loop has made turns, and all others are where they were.
use Rattle.std.proofs.Common.{◌≡◌, ◌+◌, ◌++◌, length, take, drop}
use Rattle.sz_machine_cells.proofs.operands.move_rest.Given as goal

abbrev pub invariant-loop-i : goal.invariant-loop-i
invariant-loop-i l = record {
  moved : l.to.items ≡ l.initial.to.items ++ take l.i (drop l.from l.initial.cells.items);
  below : take l.from l.cells.items ≡ take l.from l.initial.cells.items;
  above : drop (l.from + l.i) l.cells.items ≡ drop (l.from + l.i) l.initial.cells.items;
  count : length l.cells.items ≡ length l.initial.cells.items;
}
