use Rattle.std.proofs.Common.{◌≡◌, [], ◌∷◌, ◌++◌, refl, ap, ◌∙◌}
use Rattle.std.specs.Prelude.{map}
use Rattle.std.proofs.lemmas.Result.{err_from_is_err_and}
use Rattle.sz_tree.specs.View.{quantifier_of}
use Rattle.sz_parse_expr.specs.ReadingTypes.{type_at}
use Rattle.sz_parse.specs.ReadingTables.{quantifier_step}
use Rattle.sz_parse_expr.specs.Reading.{utf8_in}
use Rattle.sz_parse_expr.proofs.TypeSound.{type_sound}
use Rattle.sz_parse.proofs.TableSound.{quantifier_item}
use Rattle.sz_parse_expr.proofs.Loops.{all_goes_on, all_fails, all_ends, item_shorter}
use Rattle.sz_parse_expr.proofs.ExpressionRows.{just, map_push}
use Rattle.sz_parse.proofs.StatementTurns.{quantifier_here, quantifier_gone, no_quantifier_at_end, quantifiers_start}
use Rattle.sz_parse.proofs.table.quantifiers_after.Goals as goal

pub loop-reader-init : goal.loop-reader-init
loop-reader-init c =
    let made : (map quantifier_of c.push.new.self.items) ≡ (quantifier_of c.args.first) ∷ [] =
    rw (c.in_ok-push.ensures.items, c.new-items.ensures.items) refl in
    rw made (quantifiers_start (utf8_in c.args.reader.text.now)
    (type_at (utf8_in c.args.reader.text.now) c.args.reader.depth.levels)
    (quantifier_of c.args.first) c.args.reader.tokens.now)

pub loop-reader-smaller : goal.loop-reader-smaller
loop-reader-smaller c =
    item_shorter (quantifier_item (utf8_in c.args.reader.text.now)
    (type_at (utf8_in c.args.reader.text.now) c.args.reader.depth.levels)
    c.args.reader.depth.levels
    (type_sound (utf8_in c.args.reader.text.now) c.args.reader.depth.levels))
    (quantifier_of c.in_ok-item.item) c.loop-reader.rest.now c.in_ok-item.after.now
    ((quantifier_here (utf8_in c.args.reader.text.now)
    (type_at (utf8_in c.args.reader.text.now) c.args.reader.depth.levels) c.loop-reader.rest.now
    c.in-Some.field-0.now
    c.in-Some.ensures.value
    ∙ ap just (rw c.at.ensures.value at c.in_ok-item.ensures.read)))

pub returns-in_err-item : goal.returns-in_err-item
returns-in_err-item c =
    let p = err_from_is_err_and c.from_residual-in_err-item.result c.from_residual-in_err-item.ensures.1 in
    record {
      read = rw (p.1, p.2)
          (all_fails c.in_err-item.field-0.0
          (quantifier_step (utf8_in c.args.reader.text.now)
          (type_at (utf8_in c.args.reader.text.now) c.args.reader.depth.levels))
          (no_quantifier_at_end (utf8_in c.args.reader.text.now)
          (type_at (utf8_in c.args.reader.text.now) c.args.reader.depth.levels))
          (map quantifier_of c.loop-reader.items.items) c.loop-reader.rest.now _ _
          (quantifier_here (utf8_in c.args.reader.text.now)
          (type_at (utf8_in c.args.reader.text.now) c.args.reader.depth.levels)
          c.loop-reader.rest.now c.in-Some.field-0.now c.in-Some.ensures.value)
          (rw c.at.ensures.value at c.in_err-item.ensures.read)
          c.loop-reader.invariant);
    }

pub loop-reader-preserved : goal.loop-reader-preserved
loop-reader-preserved c =
    let made : (map quantifier_of c.push-in-Some.new.self.items) ≡ (map quantifier_of c.loop-reader.items.items)
    ++ (quantifier_of c.in_ok-item.item) ∷
    [] = rw c.in_ok-push-2.ensures.items (map_push quantifier_of c.loop-reader.items.items c.in_ok-item.item) in
    rw made (all_goes_on
    (quantifier_item (utf8_in c.args.reader.text.now)
    (type_at (utf8_in c.args.reader.text.now) c.args.reader.depth.levels) c.args.reader.depth.levels
    (type_sound (utf8_in c.args.reader.text.now) c.args.reader.depth.levels))
    (no_quantifier_at_end (utf8_in c.args.reader.text.now)
    (type_at (utf8_in c.args.reader.text.now) c.args.reader.depth.levels))
    (map quantifier_of c.loop-reader.items.items)
    (quantifier_of c.in_ok-item.item) c.loop-reader.rest.now c.in_ok-item.after.now _
    ((quantifier_here (utf8_in c.args.reader.text.now)
    (type_at (utf8_in c.args.reader.text.now) c.args.reader.depth.levels) c.loop-reader.rest.now
    c.in-Some.field-0.now
    c.in-Some.ensures.value
    ∙ ap just (rw c.at.ensures.value at c.in_ok-item.ensures.read))) c.loop-reader.invariant)

pub returns : goal.returns
returns c =
    record {
      read = all_ends (quantifier_step (utf8_in c.args.reader.text.now)
          (type_at (utf8_in c.args.reader.text.now) c.args.reader.depth.levels))
          (map quantifier_of c.loop-reader.items.items) c.loop-reader.rest.now _
          (quantifier_gone (utf8_in c.args.reader.text.now)
          (type_at (utf8_in c.args.reader.text.now) c.args.reader.depth.levels)
          c.loop-reader.rest.now c.in_default.ensures.value)
          c.loop-reader.invariant;
    }
