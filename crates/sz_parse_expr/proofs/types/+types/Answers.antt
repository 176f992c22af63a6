use Rattle.std.proofs.Common.{◌≡◌, [], ◌∷◌, ◌++◌, refl, ap, ◌∙◌}
use Rattle.std.specs.Prelude.{map}
use Rattle.std.proofs.lemmas.Result.{err_from_is_err_and}
use Rattle.sz_tree.specs.View.{param_of, field_of}
use Rattle.sz_parse_expr.specs.Reading.{utf8_in}
use Rattle.sz_parse_expr.specs.ReadingTypes.{type_at, param_step, proto_field_step}
use Rattle.sz_parse_expr.proofs.TypeSound.{type_sound, param_item, field_item}
use Rattle.sz_parse_expr.proofs.Loops.{all_goes_on, all_fails, all_ends, item_shorter}
use Rattle.sz_parse_expr.proofs.ExpressionRows.{just, map_push}
use Rattle.sz_parse_expr.proofs.TypeTurns.{param_here, param_gone, no_param_at_end, params_start, field_here, field_gone, no_field_at_end, fields_start}
use Rattle.sz_parse_expr.proofs.types.+types.Goals as goal

-- ---- params_after

pub params_after-loop-after-init : goal.params_after-loop-after-init
params_after-loop-after-init t c =
    let made : map param_of c.push.new.self.items ≡ param_of c.args.first ∷ [] = rw (c.in_ok-push.ensures.items, c.new-params.ensures.items) refl in
    rw made (params_start (utf8_in c.args.reader.text.now) (type_at (utf8_in c.args.reader.text.now) c.args.reader.depth.levels)
    (param_of c.args.first) c.args.reader.tokens.now)

pub params_after-loop-after-smaller : goal.params_after-loop-after-smaller
params_after-loop-after-smaller t c =
    item_shorter (param_item (utf8_in c.args.reader.text.now) (type_at (utf8_in c.args.reader.text.now) c.args.reader.depth.levels) c.args.reader.depth.levels
    (type_sound (utf8_in c.args.reader.text.now) c.args.reader.depth.levels))
    (param_of c.in_ok-item.item) c.loop-after.rest.now c.in_ok-item.after.now
    (param_here (utf8_in c.args.reader.text.now) (type_at (utf8_in c.args.reader.text.now) c.args.reader.depth.levels) c.loop-after.rest.now
    c.in-Some.after.now c.in-Some.ensures.value
    ∙ ap just (rw c.at.ensures.value at c.in_ok-item.ensures.read))

pub params_after-returns-in_err-item : goal.params_after-returns-in_err-item
params_after-returns-in_err-item t c =
    let p = err_from_is_err_and c.from_residual-in_err-item.result c.from_residual-in_err-item.ensures.1 in
    record {
      read = rw (p.1, p.2)
          (all_fails c.in_err-item.field-0.0
          (param_step (utf8_in c.args.reader.text.now) (type_at (utf8_in c.args.reader.text.now) c.args.reader.depth.levels)) (no_param_at_end _ _)
          (map param_of c.loop-after.params.items) c.loop-after.rest.now _ _
          (param_here (utf8_in c.args.reader.text.now)
          (type_at (utf8_in c.args.reader.text.now) c.args.reader.depth.levels) c.loop-after.rest.now c.in-Some.after.now c.in-Some.ensures.value)
          (rw c.at.ensures.value at c.in_err-item.ensures.read)
          c.loop-after.invariant);
    }

pub params_after-loop-after-preserved : goal.params_after-loop-after-preserved
params_after-loop-after-preserved t c =
    let made : map param_of c.push-in-Some.new.self.items ≡ map param_of c.loop-after.params.items ++ param_of c.in_ok-item.item ∷ [] =
    rw c.in_ok-push-2.ensures.items (map_push param_of c.loop-after.params.items c.in_ok-item.item) in
    rw made (all_goes_on (param_item (utf8_in c.args.reader.text.now) (type_at (utf8_in c.args.reader.text.now) c.args.reader.depth.levels)
    c.args.reader.depth.levels
    (type_sound (utf8_in c.args.reader.text.now) c.args.reader.depth.levels))
    (no_param_at_end _ _) (map param_of c.loop-after.params.items) (param_of c.in_ok-item.item) c.loop-after.rest.now c.in_ok-item.after.now _
    (param_here (utf8_in c.args.reader.text.now) (type_at (utf8_in c.args.reader.text.now) c.args.reader.depth.levels) c.loop-after.rest.now
    c.in-Some.after.now c.in-Some.ensures.value
    ∙ ap just (rw c.at.ensures.value at c.in_ok-item.ensures.read)) c.loop-after.invariant)

pub params_after-returns : goal.params_after-returns
params_after-returns t c =
    record {
      read = all_ends (param_step (utf8_in c.args.reader.text.now) (type_at (utf8_in c.args.reader.text.now) c.args.reader.depth.levels))
          (map param_of c.loop-after.params.items) c.loop-after.rest.now _ (param_gone _ _ _ c.in_default.ensures.value) c.loop-after.invariant;
    }

-- ---- fields_after

pub fields_after-loop-after-init : goal.fields_after-loop-after-init
fields_after-loop-after-init t c =
    let made : map field_of c.push.new.self.items ≡ field_of c.args.first ∷ [] = rw (c.in_ok-push.ensures.items, c.new-fields.ensures.items) refl in
    rw made (fields_start (utf8_in c.args.reader.text.now) (type_at (utf8_in c.args.reader.text.now) c.args.reader.depth.levels)
    (field_of c.args.first) c.args.reader.tokens.now)

pub fields_after-loop-after-smaller : goal.fields_after-loop-after-smaller
fields_after-loop-after-smaller t c =
    item_shorter (field_item (utf8_in c.args.reader.text.now) (type_at (utf8_in c.args.reader.text.now) c.args.reader.depth.levels) c.args.reader.depth.levels
    (type_sound (utf8_in c.args.reader.text.now) c.args.reader.depth.levels))
    (field_of c.in_ok-item.item) c.loop-after.rest.now c.in_ok-item.after.now
    (field_here (utf8_in c.args.reader.text.now) (type_at (utf8_in c.args.reader.text.now) c.args.reader.depth.levels) c.loop-after.rest.now
    c.in-Some.after.now c.in-Some.ensures.value
    ∙ ap just (rw c.at.ensures.value at c.in_ok-item.ensures.read))

pub fields_after-returns-in_err-item : goal.fields_after-returns-in_err-item
fields_after-returns-in_err-item t c =
    let p = err_from_is_err_and c.from_residual-in_err-item.result c.from_residual-in_err-item.ensures.1 in
    record {
      read = rw (p.1, p.2)
          (all_fails c.in_err-item.field-0.0
          (proto_field_step (utf8_in c.args.reader.text.now) (type_at (utf8_in c.args.reader.text.now) c.args.reader.depth.levels)) (no_field_at_end _ _)
          (map field_of c.loop-after.fields.items) c.loop-after.rest.now _ _
          (field_here (utf8_in c.args.reader.text.now)
          (type_at (utf8_in c.args.reader.text.now) c.args.reader.depth.levels) c.loop-after.rest.now c.in-Some.after.now c.in-Some.ensures.value)
          (rw c.at.ensures.value at c.in_err-item.ensures.read)
          c.loop-after.invariant);
    }

pub fields_after-loop-after-preserved : goal.fields_after-loop-after-preserved
fields_after-loop-after-preserved t c =
    let made : map field_of c.push-in-Some.new.self.items ≡ map field_of c.loop-after.fields.items ++ field_of c.in_ok-item.item ∷ [] =
    rw c.in_ok-push-2.ensures.items (map_push field_of c.loop-after.fields.items c.in_ok-item.item) in
    rw made (all_goes_on (field_item (utf8_in c.args.reader.text.now) (type_at (utf8_in c.args.reader.text.now) c.args.reader.depth.levels)
    c.args.reader.depth.levels
    (type_sound (utf8_in c.args.reader.text.now) c.args.reader.depth.levels))
    (no_field_at_end _ _) (map field_of c.loop-after.fields.items) (field_of c.in_ok-item.item) c.loop-after.rest.now c.in_ok-item.after.now _
    (field_here (utf8_in c.args.reader.text.now) (type_at (utf8_in c.args.reader.text.now) c.args.reader.depth.levels) c.loop-after.rest.now
    c.in-Some.after.now c.in-Some.ensures.value
    ∙ ap just (rw c.at.ensures.value at c.in_ok-item.ensures.read)) c.loop-after.invariant)

pub fields_after-returns : goal.fields_after-returns
fields_after-returns t c =
    record {
      read = all_ends (proto_field_step (utf8_in c.args.reader.text.now) (type_at (utf8_in c.args.reader.text.now) c.args.reader.depth.levels))
          (map field_of c.loop-after.fields.items) c.loop-after.rest.now _ (field_gone _ _ _ c.in_default.ensures.value) c.loop-after.invariant;
    }
