-- The first tables are joined, and the others are left on either side.
use Rattle.std.proofs.Common.{◌≡◌, take, drop}
use Rattle.std.specs.List.{AllByRecursion}
use Rattle.sz_save.specs.Walk.{joined_tables, AreCounted}
use Rattle.sz_save.proofs.joining.join_tables.Given as goal

abbrev pub invariant-loop-i : goal.invariant-loop-i
invariant-loop-i l = record {
  joined : l.joined ≡ take l.i (joined_tables l.decls l.fn.tables l.fn.others);
  counted : AllByRecursion AreCounted l.joined;
  rest : l.rest.items ≡ drop l.i l.fn.tables;
  left : l.left.items ≡ drop l.i l.fn.others;
}
