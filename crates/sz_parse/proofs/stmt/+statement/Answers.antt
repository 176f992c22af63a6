use Rattle.std.proofs.Common.{◌≡◌, [], ◌∷◌, ◌++◌, refl, ap, ◌∙◌}
use Rattle.std.specs.Prelude.{map}
use Rattle.std.proofs.lemmas.Result.{err_from_is_err_and}
use Rattle.sz_tree.specs.View.{stm_of}
use Rattle.sz_parse_expr.specs.Reading.{utf8_in}
use Rattle.sz_parse.specs.ReadingStatements.{stm_at, stm_step}
use Rattle.sz_parse.proofs.StatementSound.{stms_item}
use Rattle.sz_parse_expr.proofs.Loops.{all_goes_on, all_fails, all_ends, item_shorter}
use Rattle.sz_parse_expr.proofs.ExpressionRows.{just, map_push}
use Rattle.sz_parse.proofs.StatementTurns.{all_start, stm_is_here, stm_gone, no_stm_at_end, stm_deeper}
use Rattle.sz_parse.proofs.stmt.+statement.Goals as goal

pub statements-loop-reader-init : goal.statements-loop-reader-init
statements-loop-reader-init t c =
    let made : map stm_of c.new-items.result.items ≡ [] = rw c.new-items.ensures.items refl in
    rw made (all_start (stm_step (stm_at (utf8_in c.args.reader.text.now) c.args.reader.depth.levels))
    c.args.reader.tokens.now)

pub statements-loop-reader-smaller : goal.statements-loop-reader-smaller
statements-loop-reader-smaller t c =
    item_shorter (stms_item (utf8_in c.args.reader.text.now) c.args.reader.depth.levels)
    (stm_of c.in_ok-item.item) c.loop-reader.rest.now c.in_ok-item.after.now
    ((stm_is_here (stm_at (utf8_in c.args.reader.text.now) c.args.reader.depth.levels)
    c.loop-reader.rest.now c.in-Some.field-0.now c.in-Some.ensures.value
    ∙ ap just (rw c.at.ensures.value at c.in_ok-item.ensures.read)))

pub statements-returns-in_err-item : goal.statements-returns-in_err-item
statements-returns-in_err-item t c =
    let p = err_from_is_err_and c.from_residual.result c.from_residual.ensures.1 in
    record {
      read = rw (p.1, p.2)
          (all_fails c.in_err-item.field-0.0
          (stm_step (stm_at (utf8_in c.args.reader.text.now) c.args.reader.depth.levels))
          (no_stm_at_end (stm_at (utf8_in c.args.reader.text.now) c.args.reader.depth.levels))
          (map stm_of c.loop-reader.items.items) c.loop-reader.rest.now _ _
          (stm_is_here (stm_at (utf8_in c.args.reader.text.now) c.args.reader.depth.levels)
          c.loop-reader.rest.now c.in-Some.field-0.now c.in-Some.ensures.value)
          (rw c.at.ensures.value at c.in_err-item.ensures.read) c.loop-reader.invariant);
    }

pub statements-loop-reader-preserved : goal.statements-loop-reader-preserved
statements-loop-reader-preserved t c =
    let made : map stm_of c.push.new.self.items ≡ map stm_of c.loop-reader.items.items
    ++ stm_of c.in_ok-item.item ∷ [] =
    rw c.in_ok-push.ensures.items (map_push stm_of c.loop-reader.items.items c.in_ok-item.item) in
    rw made (all_goes_on (stms_item (utf8_in c.args.reader.text.now) c.args.reader.depth.levels)
    (no_stm_at_end (stm_at (utf8_in c.args.reader.text.now) c.args.reader.depth.levels))
    (map stm_of c.loop-reader.items.items) (stm_of c.in_ok-item.item) c.loop-reader.rest.now c.in_ok-item.after.now _
    ((stm_is_here (stm_at (utf8_in c.args.reader.text.now) c.args.reader.depth.levels)
    c.loop-reader.rest.now c.in-Some.field-0.now c.in-Some.ensures.value
    ∙ ap just (rw c.at.ensures.value at c.in_ok-item.ensures.read))) c.loop-reader.invariant)

pub statements-returns : goal.statements-returns
statements-returns t c =
    record {
      read = all_ends (stm_step (stm_at (utf8_in c.args.reader.text.now) c.args.reader.depth.levels))
          (map stm_of c.loop-reader.items.items) c.loop-reader.rest.now _
          (stm_gone (stm_at (utf8_in c.args.reader.text.now) c.args.reader.depth.levels)
          c.loop-reader.rest.now c.in_default.ensures.value) c.loop-reader.invariant;
    }

pub statement-returns : goal.statement-returns
statement-returns t c =
    record {
      read = rw (stm_deeper (utf8_in c.args.reader.text.now)
          c.in-Some.depth.levels c.args.reader.depth.levels c.args.reader.tokens.now
          c.in-Some.ensures.parts)
          c.step.ensures.read;
    }
