-- What is left goes on what was added.
use Rattle.std.proofs.Common.{map}
use Rattle.sz_value.specs.Seen.{seen}
use Rattle.sz_proto.specs.Elements.{in_all}
use Rattle.sz_proto.specs.Found.{contents, number_each}
use Rattle.sz_proto.proofs.GoingLemmas.{GoesFrom}
use Rattle.sz_proto.proofs.elements.numbers.Given as goal

abbrev pub invariant-loop-field : goal.invariant-loop-field
invariant-loop-field l = GoesFrom (number_each l.is_time l.code) l.bytes l.run
    (in_all (number_each l.is_time l.code) (contents l.bytes l.run)) l.field-index (map seen l.elements.items)
