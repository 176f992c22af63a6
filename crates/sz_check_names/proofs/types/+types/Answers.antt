use Rattle.std.proofs.Common.{map, ap, ◌∙◌, arith}
use Rattle.std.proofs.lemmas.Result.{err_from_is_err_and}
use Rattle.sz_tree.specs.View.{type_of}
use Rattle.sz_tree.proofs.RowLemmas.{type_of_tuple, type_of_proto}
use Rattle.sz_check_names.specs.Knowledge.{blocks_of}
use Rattle.sz_check_rules.specs.JudgingTypes.{judge_type}
use Rattle.sz_check_names.specs.Written.{shape_in, field_in}
use Rattle.sz_check_names.proofs.TurnLemmas.{map_push, judged_as}
use Rattle.sz_check_names.proofs.TypeLoops.{parts_fails, parts_goes, parts_ends, fields_fails, fields_goes, fields_ends}
use Rattle.sz_check_names.proofs.types.+types.Goals as goal

pub judge_parts-returns-in_err-judge_part : goal.judge_parts-returns-in_err-judge_part
judge_parts-returns-in_err-judge_part t c =
    let p = err_from_is_err_and c.from_residual.result c.from_residual.ensures.1 in
    let front = map (field_in c.args.known.now.outside.types) c.loop-tree.parts.items in
    record {
      value = rw (p.1, p.2) (parts_fails (blocks_of c.args.known.now) c.args.trees.now front
          c.loop-tree.taken c.loop-tree.tree-index c.tree-item.result c.in_err-judge_part.field-0.0 _
          (omega arith) c.tree-item.is c.in_err-judge_part.ensures.value c.loop-tree.invariant);
    }

pub judge_parts-loop-tree-preserved : goal.judge_parts-loop-tree-preserved
judge_parts-loop-tree-preserved t c =
    let types = c.args.known.now.outside.types in
    rw (c.in_ok-push.ensures.items, map_push (field_in types) c.loop-tree.parts.items c.in_ok-judge_part.field-0)
    (parts_goes (blocks_of c.args.known.now) c.args.trees.now (map (field_in types) c.loop-tree.parts.items)
    c.loop-tree.taken c.judge_part.new.taken c.loop-tree.tree-index c.tree-item.result
    (field_in types c.in_ok-judge_part.field-0) _ (omega arith) c.tree-item.is
    c.in_ok-judge_part.ensures.value c.in_ok-judge_part.ensures.taken c.loop-tree.invariant)

pub judge_parts-returns : goal.judge_parts-returns
judge_parts-returns t c = record {
  value = parts_ends (blocks_of c.args.known.now) c.args.trees.now
      (map (field_in c.args.known.now.outside.types) c.loop-tree.parts.items) c.loop-tree.taken
      c.loop-tree.tree-index _ (omega arith) c.loop-tree.invariant;
}

pub judge_fields-returns-in_err-judge_field : goal.judge_fields-returns-in_err-judge_field
judge_fields-returns-in_err-judge_field t c =
    let p = err_from_is_err_and c.from_residual.result c.from_residual.ensures.1 in
    let front = map (field_in c.args.known.now.outside.types) c.loop-tree.fields.items in
    record {
      value = rw (p.1, p.2) (fields_fails (blocks_of c.args.known.now) c.args.trees.now front
          c.loop-tree.taken c.loop-tree.used c.loop-tree.tree-index c.tree-item.result c.in_err-judge_field.field-0.0
          _ (omega arith) c.tree-item.is c.in_err-judge_field.ensures.value c.loop-tree.invariant);
    }

pub judge_fields-loop-tree-preserved : goal.judge_fields-loop-tree-preserved
judge_fields-loop-tree-preserved t c =
    let types = c.args.known.now.outside.types in
    rw (c.in_ok-push.ensures.items, map_push (field_in types) c.loop-tree.fields.items c.in_ok-judge_field.field-0)
    (fields_goes (blocks_of c.args.known.now) c.args.trees.now (map (field_in types) c.loop-tree.fields.items)
    c.loop-tree.taken c.judge_field.new.taken c.loop-tree.used c.judge_field.new.used c.loop-tree.tree-index
    c.tree-item.result (field_in types c.in_ok-judge_field.field-0) _ (omega arith) c.tree-item.is
    c.in_ok-judge_field.ensures.value c.in_ok-judge_field.ensures.taken c.in_ok-judge_field.ensures.used
    c.loop-tree.invariant)

pub judge_fields-returns : goal.judge_fields-returns
judge_fields-returns t c = record {
  value = fields_ends (blocks_of c.args.known.now) c.args.trees.now
      (map (field_in c.args.known.now.outside.types) c.loop-tree.fields.items) c.loop-tree.taken
      c.loop-tree.used c.loop-tree.tree-index _ (omega arith) c.loop-tree.invariant;
}

pub judge_written-returns-in-Tuple : goal.judge_written-returns-in-Tuple
judge_written-returns-in-Tuple t c = record {
  value =
      judged_as
      (shape_in c.args.known.now.outside.types) c.judge_tuple.result (judge_type (blocks_of c.args.known.now)) _ _
      (ap type_of c.in-Tuple.is ∙ type_of_tuple _ _)
      (rw c.as_slice.ensures.value at c.judge_tuple.ensures.value);
}

pub judge_written-returns-in-Proto : goal.judge_written-returns-in-Proto
judge_written-returns-in-Proto t c = record {
  value =
      judged_as
      (shape_in c.args.known.now.outside.types) c.judge_proto.result (judge_type (blocks_of c.args.known.now)) _ _
      (ap type_of c.in-Proto.is ∙ type_of_proto _ _)
      (rw c.as_slice-in-Proto.ensures.value at c.judge_proto.ensures.value);
}
