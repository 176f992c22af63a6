use Rattle.std.proofs.Common.{◌≡◌, map, take}
use Rattle.sz_protofile_types.specs.Search.{number_of}
use Rattle.sz_protofile_types.proofs.components.numbers_of.Given as goal

abbrev pub invariant-loop-mark : goal.invariant-loop-mark
invariant-loop-mark l = l.numbers.items ≡ map number_of (take l.mark-index l.marks)
