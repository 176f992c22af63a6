-- Those so far are appended.
use Rattle.std.proofs.Common.{◌≡◌, ◌++◌, map, take}
use Rattle.sz_value.specs.Seen.{seen}
use Rattle.sz_proto.specs.Found.{whole_number}
use Rattle.sz_proto.proofs.elements.push_numbers.Given as goal

abbrev pub invariant-loop-number : goal.invariant-loop-number
invariant-loop-number l = map seen l.elements.items ≡ map seen l.fn.elements.items
    ++ map (whole_number l.is_time) (take l.number-index l.numbers)
