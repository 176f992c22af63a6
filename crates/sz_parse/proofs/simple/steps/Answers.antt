use Rattle.std.proofs.Common.{◌≡◌, [], ◌∷◌, ◌++◌, refl, ap, ◌∙◌}
use Rattle.std.specs.Prelude.{map}
use Rattle.std.proofs.lemmas.Result.{err_from_is_err_and}
use Rattle.sz_tree.specs.View.{step_of}
use Rattle.sz_parse_expr.specs.ReadingExpressions.{expr_at}
use Rattle.sz_parse.specs.ReadingStatements.{path_step}
use Rattle.sz_parse_expr.specs.Reading.{utf8_in}
use Rattle.sz_parse_expr.proofs.ExpressionSound.{expr_sound}
use Rattle.sz_parse.proofs.SimpleSound.{path_item}
use Rattle.sz_parse_expr.proofs.Loops.{all_goes_on, all_fails, all_ends, item_shorter}
use Rattle.sz_parse_expr.proofs.ExpressionRows.{just, map_push}
use Rattle.sz_parse.proofs.StatementTurns.{all_start, step_here, step_gone, no_step_at_end}
use Rattle.sz_parse.proofs.simple.steps.Goals as goal

pub loop-reader-init : goal.loop-reader-init
loop-reader-init c =
    let made : (map step_of c.new-items.result.items) ≡ [] = rw c.new-items.ensures.items refl in
    rw made (all_start
    (path_step (utf8_in c.args.reader.text.now) (expr_at (utf8_in c.args.reader.text.now) c.args.reader.depth.levels))
    c.args.reader.tokens.now)

pub loop-reader-smaller : goal.loop-reader-smaller
loop-reader-smaller c =
    item_shorter (path_item (utf8_in c.args.reader.text.now)
    (expr_at (utf8_in c.args.reader.text.now) c.args.reader.depth.levels) c.args.reader.depth.levels
    (expr_sound (utf8_in c.args.reader.text.now) c.args.reader.depth.levels))
    (step_of c.in_ok-item.item) c.loop-reader.rest.now c.in_ok-item.after.now
    ((step_here (utf8_in c.args.reader.text.now)
    (expr_at (utf8_in c.args.reader.text.now) c.args.reader.depth.levels) c.loop-reader.rest.now
    c.in-Some.field-0.now c.in-Some.ensures.value
    ∙ ap just (rw c.at.ensures.value at c.in_ok-item.ensures.read)))

pub returns-in_err-item : goal.returns-in_err-item
returns-in_err-item c =
    let p = err_from_is_err_and c.from_residual.result c.from_residual.ensures.1 in
    record {
      read = rw (p.1, p.2)
          (all_fails c.in_err-item.field-0.0
          (path_step (utf8_in c.args.reader.text.now)
          (expr_at (utf8_in c.args.reader.text.now) c.args.reader.depth.levels))
          (no_step_at_end (utf8_in c.args.reader.text.now)
          (expr_at (utf8_in c.args.reader.text.now) c.args.reader.depth.levels))
          (map step_of c.loop-reader.items.items)
          c.loop-reader.rest.now _ _
          (step_here (utf8_in c.args.reader.text.now)
          (expr_at (utf8_in c.args.reader.text.now) c.args.reader.depth.levels)
          c.loop-reader.rest.now c.in-Some.field-0.now c.in-Some.ensures.value)
          (rw c.at.ensures.value at c.in_err-item.ensures.read)
          c.loop-reader.invariant);
    }

pub loop-reader-preserved : goal.loop-reader-preserved
loop-reader-preserved c =
    let made : (map step_of c.push.new.self.items) ≡ (map step_of c.loop-reader.items.items)
    ++ (step_of c.in_ok-item.item) ∷ [] =
    rw c.in_ok-push.ensures.items (map_push step_of c.loop-reader.items.items c.in_ok-item.item) in
    rw made (all_goes_on
    (path_item (utf8_in c.args.reader.text.now) (expr_at (utf8_in c.args.reader.text.now) c.args.reader.depth.levels)
    c.args.reader.depth.levels
    (expr_sound (utf8_in c.args.reader.text.now) c.args.reader.depth.levels))
    (no_step_at_end (utf8_in c.args.reader.text.now)
    (expr_at (utf8_in c.args.reader.text.now) c.args.reader.depth.levels))
    (map step_of c.loop-reader.items.items)
    (step_of c.in_ok-item.item) c.loop-reader.rest.now c.in_ok-item.after.now _
    ((step_here (utf8_in c.args.reader.text.now)
    (expr_at (utf8_in c.args.reader.text.now) c.args.reader.depth.levels) c.loop-reader.rest.now
    c.in-Some.field-0.now c.in-Some.ensures.value
    ∙ ap just (rw c.at.ensures.value at c.in_ok-item.ensures.read))) c.loop-reader.invariant)

pub returns : goal.returns
returns c =
    record {
      read = all_ends (path_step (utf8_in c.args.reader.text.now)
          (expr_at (utf8_in c.args.reader.text.now) c.args.reader.depth.levels))
          (map step_of c.loop-reader.items.items) c.loop-reader.rest.now _
          (step_gone (utf8_in c.args.reader.text.now)
          (expr_at (utf8_in c.args.reader.text.now) c.args.reader.depth.levels) c.loop-reader.rest.now
          c.in_default.ensures.value)
          c.loop-reader.invariant;
    }
