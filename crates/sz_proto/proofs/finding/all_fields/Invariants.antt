-- What is left goes on what was found.
use Rattle.std.proofs.Common.{map, length}
use Rattle.sz_wire.specs.Field.{field_in}
use Rattle.sz_proto.specs.Elements.{in_all}
use Rattle.sz_proto.specs.Found.{contents, AreWithin, fields_each}
use Rattle.sz_proto.proofs.GoingLemmas.{GoesFrom}
use Rattle.sz_proto.proofs.finding.all_fields.Given as goal

abbrev pub invariant-loop-field : goal.invariant-loop-field
invariant-loop-field l =
    GoesFrom (fields_each l.depth) l.bytes l.run (in_all (fields_each l.depth) (contents l.bytes l.run)) l.field-index
    (map (field_in l.bytes) l.found.items) × AreWithin (length l.bytes) l.found.items
