-- What is left goes on what was added.
use Rattle.std.proofs.Common.{map}
use Rattle.sz_value.specs.Seen.{seen}
use Rattle.sz_proto.specs.Elements.{in_all}
use Rattle.sz_proto.specs.Found.{contents, octets_each}
use Rattle.sz_proto.proofs.GoingLemmas.{GoesFrom}
use Rattle.sz_proto.proofs.elements.octets.Given as goal

abbrev pub invariant-loop-field : goal.invariant-loop-field
invariant-loop-field l = GoesFrom octets_each l.bytes l.run (in_all octets_each (contents l.bytes l.run))
    l.field-index (map seen l.elements.items)
