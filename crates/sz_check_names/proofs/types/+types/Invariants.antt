-- What is judged, and the judgement of what is after it, are the judgement of all.
use Rattle.std.proofs.Common.{◌≡◌, map}
use Rattle.sz_types.specs.Data.{with_field}
use Rattle.sz_check_names.specs.Knowledge.{blocks_of}
use Rattle.sz_check_names.specs.Turns.{following}
use Rattle.sz_check_names.specs.Written.{field_in}
use Rattle.sz_check_names.proofs.TypeLoops.{parts_from, fields_from}
use Rattle.sz_check_names.proofs.types.+types.Given as goal

abbrev pub invariant-judge_parts-loop-tree : goal.invariant-judge_parts-loop-tree
invariant-judge_parts-loop-tree l =
    following with_field (map (field_in l.known.outside.types) l.parts.items)
    (parts_from (blocks_of l.known) l.trees l.taken l.tree-index)
    ≡ parts_from (blocks_of l.known) l.trees l.fn.taken 0

abbrev pub invariant-judge_fields-loop-tree : goal.invariant-judge_fields-loop-tree
invariant-judge_fields-loop-tree l =
    following with_field (map (field_in l.known.outside.types) l.fields.items)
    (fields_from (blocks_of l.known) l.trees l.taken l.used l.tree-index)
    ≡ fields_from (blocks_of l.known) l.trees l.fn.taken l.fn.used 0
