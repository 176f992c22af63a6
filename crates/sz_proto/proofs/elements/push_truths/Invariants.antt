-- Those so far are appended.
use Rattle.std.proofs.Common.{◌≡◌, ◌++◌, map, take}
use Rattle.sz_value.specs.Data as values
use Rattle.sz_value.specs.Seen.{seen}
use Rattle.sz_proto.specs.Elements.{truths_of}
use Rattle.sz_proto.proofs.elements.push_truths.Given as goal

abbrev pub invariant-loop-number : goal.invariant-loop-number
invariant-loop-number l = map seen l.elements.items ≡ map seen l.fn.elements.items
    ++ map values.truth (truths_of (take l.number-index l.numbers))
