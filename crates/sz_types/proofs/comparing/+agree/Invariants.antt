-- What is left of the two lists is alike exactly where the whole lists are.
use Rattle.std.proofs.Common.{◌≡◌, drop}
use Rattle.sz_types.specs.FieldLists.{alike_lists}
use Rattle.sz_types.proofs.comparing.+agree.Given as goal

abbrev pub invariant-lists_agree-loop-i : goal.invariant-lists_agree-loop-i
invariant-lists_agree-loop-i l = alike_lists (drop l.i l.a) (drop l.i l.b) ≡ alike_lists l.a l.b
