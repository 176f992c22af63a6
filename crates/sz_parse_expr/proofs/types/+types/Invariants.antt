-- What the loops of the types keep, and why their calls end.
use Rattle.std.proofs.Common.{◌≡◌, ◌+◌, ◌*◌, length}
use Rattle.std.specs.Prelude.{map}
use Rattle.sz_tree.specs.View.{param_of, field_of}
use Rattle.sz_parse_expr.specs.Reading.{utf8_in, all_at, with_items}
use Rattle.sz_parse_expr.specs.ReadingTypes.{type_at, param_step, params_after, proto_field_step, proto_fields_after}
use Rattle.sz_parse_expr.proofs.types.+types.Given as goal

-- a type's own function comes after those of its parts
abbrev pub decreases-type_tree : goal.decreases-type_tree
decreases-type_tree l = 16 * l.reader.depth.levels

abbrev pub decreases-step : goal.decreases-step
decreases-step l = 16 * l.reader.depth.levels + 10

abbrev pub decreases-worded : goal.decreases-worded
decreases-worded l = 16 * l.reader.depth.levels + 9

abbrev pub decreases-array : goal.decreases-array
decreases-array l = 16 * l.reader.depth.levels + 7

abbrev pub decreases-map : goal.decreases-map
decreases-map l = 16 * l.reader.depth.levels + 7

abbrev pub decreases-elem : goal.decreases-elem
decreases-elem l = 16 * l.reader.depth.levels + 6

abbrev pub decreases-tuple : goal.decreases-tuple
decreases-tuple l = 16 * l.reader.depth.levels + 7

abbrev pub decreases-proto : goal.decreases-proto
decreases-proto l = 16 * l.reader.depth.levels + 8

abbrev pub decreases-params : goal.decreases-params
decreases-params l = 16 * l.reader.depth.levels + 6

abbrev pub decreases-params_after : goal.decreases-params_after
decreases-params_after l = 16 * l.reader.depth.levels + 5

abbrev pub decreases-param : goal.decreases-param
decreases-param l = 16 * l.reader.depth.levels + 4

abbrev pub decreases-fields : goal.decreases-fields
decreases-fields l = 16 * l.reader.depth.levels + 7

abbrev pub decreases-fields_after : goal.decreases-fields_after
decreases-fields_after l = 16 * l.reader.depth.levels + 6

abbrev pub decreases-field : goal.decreases-field
decreases-field l = 16 * l.reader.depth.levels + 5

-- the items so far, and those that are read from here, are all of them
abbrev pub invariant-params_after-loop-after : goal.invariant-params_after-loop-after
invariant-params_after-loop-after l =
    with_items (map param_of l.params.items)
    (all_at (param_step (utf8_in l.reader.text.now) (type_at (utf8_in l.reader.text.now) l.reader.depth.levels)) l.rest)
    ≡ params_after (utf8_in l.reader.text.now) (type_at (utf8_in l.reader.text.now) l.reader.depth.levels)
    (param_of l.fn.first) l.fn.reader.tokens.now

abbrev pub decreases-params_after-loop-after : goal.decreases-params_after-loop-after
decreases-params_after-loop-after l = length l.rest

abbrev pub invariant-fields_after-loop-after : goal.invariant-fields_after-loop-after
invariant-fields_after-loop-after l =
    with_items (map field_of l.fields.items)
    (all_at
    (proto_field_step (utf8_in l.reader.text.now) (type_at (utf8_in l.reader.text.now) l.reader.depth.levels)) l.rest)
    ≡ proto_fields_after (utf8_in l.reader.text.now) (type_at (utf8_in l.reader.text.now) l.reader.depth.levels)
    (field_of l.fn.first) l.fn.reader.tokens.now

abbrev pub decreases-fields_after-loop-after : goal.decreases-fields_after-loop-after
decreases-fields_after-loop-after l = length l.rest
