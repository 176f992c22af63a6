-- The texts of the numbers so far were appended.
use Rattle.std.proofs.Common.{◌≡◌, ◌++◌, take}
use Rattle.std.specs.Fmt.{signed_decimal}
use Rattle.sz_print.specs.Joined.{joined}
use Rattle.sz_print.proofs.row.push_numbers.Given as goal

abbrev pub invariant-loop-at : goal.invariant-loop-at
invariant-loop-at l = l.out.items ≡ l.initial.out.items ++ joined signed_decimal (take l.at l.numbers)
