-- The types so far agree.
use Rattle.std.proofs.Common.{◌≡◌, map, take}
use Rattle.sz_types.specs.Seen.{seen}
use Rattle.sz_save.proofs.declared.same_types.Given as goal

abbrev pub invariant-loop-i : goal.invariant-loop-i
invariant-loop-i l = map seen (take l.i l.one) ≡ map seen (take l.i l.other)
