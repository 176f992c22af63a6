-- The bytes so far were appended.
use Rattle.std.proofs.Common.{◌≡◌, ◌++◌, take, flat_map}
use Rattle.sz_print.specs.Text.{escaped}
use Rattle.sz_print.proofs.quoted.push_escaped.Given as goal

abbrev pub invariant-loop-byte : goal.invariant-loop-byte
invariant-loop-byte l = l.out.items ≡ l.initial.out.items ++ flat_map (escaped l.is_string) (take l.byte-index l.bytes)
