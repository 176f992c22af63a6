-- The declarations so far agree.
use Rattle.std.proofs.Common.{◌≡◌, map, take}
use Rattle.sz_types.specs.SeenTables.{seen_table}
use Rattle.sz_save.proofs.declared.are_same.Given as goal

abbrev pub invariant-loop-i : goal.invariant-loop-i
invariant-loop-i l = map seen_table (take l.i l.one) ≡ map seen_table (take l.i l.other)
