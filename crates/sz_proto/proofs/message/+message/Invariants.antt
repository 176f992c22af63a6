-- What is left goes on what was added, and a type is larger than those that it is built from.
use Rattle.std.proofs.Common.{◌+◌, ◌*◌, ◌∷◌, [], map}
use Rattle.sz_types.specs.Data.{fields_of}
use Rattle.sz_types.specs.Seen as types
use Rattle.sz_value.specs.Seen.{seen}
use Rattle.sz_wire.specs.Field.{field_in}
use Rattle.sz_proto.specs.Elements.{in_all}
use Rattle.sz_proto.specs.Messages.{message_in, values_of}
use Rattle.sz_proto.specs.Found.{contents, message_each}
use Rattle.sz_proto.proofs.GoingLemmas.{GoesFrom}
use Rattle.sz_proto.proofs.MessageLemmas.{ValuesFrom, shape_size, fields_size}
use Rattle.sz_proto.proofs.message.+message.Given as goal

abbrev pub invariant-values-loop-field : goal.invariant-values-loop-field
invariant-values-loop-field l =
    ValuesFrom l.fields l.depth (map (field_in l.bytes) l.found) l.field-index (map seen l.values.items)

abbrev pub invariant-messages-loop-field : goal.invariant-messages-loop-field
invariant-messages-loop-field l =
    let one = message_each
    (λ payload. message_in (values_of (fields_of (map types.seen_field l.fields)) l.depth) l.depth (payload ∷ [])) in
    GoesFrom one l.bytes l.run (in_all one (contents l.bytes l.run)) l.field-index (map seen l.elements.items)

abbrev pub decreases-message : goal.decreases-message
decreases-message l = 3 * fields_size (fields_of (map types.seen_field l.fields.now)) + 1

abbrev pub decreases-values : goal.decreases-values
decreases-values l = 3 * fields_size (fields_of (map types.seen_field l.fields.now))

abbrev pub decreases-value : goal.decreases-value
decreases-value l = 3 * shape_size (types.seen l.ty.now)

abbrev pub decreases-elements : goal.decreases-elements
decreases-elements l = 3 * shape_size (types.seen l.element.now) + 2

abbrev pub decreases-messages : goal.decreases-messages
decreases-messages l = 3 * fields_size (fields_of (map types.seen_field l.fields.now)) + 3

abbrev pub decreases-add_message : goal.decreases-add_message
decreases-add_message l = 3 * fields_size (fields_of (map types.seen_field l.fields.now)) + 2
