use Rattle.std.proofs.Common.{◌≡◌, [], ◌∷◌, ◌++◌, refl, ap, ◌∙◌}
use Rattle.std.proofs.lemmas.Result.{err_from_is_err_and}
use Rattle.sz_parse.specs.ReadingTables.{name_step}
use Rattle.sz_parse_expr.specs.Reading.{utf8_in}
use Rattle.sz_parse_expr.specs.ReadingTypes.{type_at}
use Rattle.sz_parse_expr.proofs.TypeSound.{type_sound}
use Rattle.sz_parse.proofs.TableSound.{name_item}
use Rattle.sz_parse_expr.proofs.Loops.{all_goes_on, all_fails, all_ends, item_shorter}
use Rattle.sz_parse_expr.proofs.ExpressionRows.{just}
use Rattle.sz_parse.proofs.StatementTurns.{name_here, name_gone, no_name_at_end}
use Rattle.sz_parse.proofs.StatementTurns.{names_start}
use Rattle.sz_parse.proofs.table.names_later.Goals as goal

pub loop-after-init : goal.loop-after-init
loop-after-init c =
    let made : c.push.new.self.items ≡ c.args.first ∷ [] =
    rw (c.in_ok-push.ensures.items, c.new-items.ensures.items) refl in
    rw made (names_start (utf8_in c.args.reader.text.now) c.args.first c.args.reader.tokens.now)

pub loop-after-smaller : goal.loop-after-smaller
loop-after-smaller c =
    item_shorter (name_item (utf8_in c.args.reader.text.now) (type_at (utf8_in c.args.reader.text.now) 0) 0
    (type_sound (utf8_in c.args.reader.text.now) 0)) c.in_ok-item.item c.loop-after.rest.now c.in_ok-item.after.now
    ((name_here (utf8_in c.args.reader.text.now) c.loop-after.rest.now c.in-Some.after.now c.in-Some.ensures.value
    ∙ ap just (rw c.at.ensures.value at c.in_ok-item.ensures.value)))

pub returns-in_err-item : goal.returns-in_err-item
returns-in_err-item c =
    let p = err_from_is_err_and c.from_residual-in_err-item.result c.from_residual-in_err-item.ensures.1 in
    record {
      read = rw (p.1, p.2)
          (all_fails c.in_err-item.field-0.0 (name_step (utf8_in c.args.reader.text.now))
          (no_name_at_end (utf8_in c.args.reader.text.now)) c.loop-after.items.items c.loop-after.rest.now _ _
          (name_here (utf8_in c.args.reader.text.now) c.loop-after.rest.now c.in-Some.after.now c.in-Some.ensures.value)
          (rw c.at.ensures.value at c.in_err-item.ensures.value)
          c.loop-after.invariant);
    }

pub loop-after-preserved : goal.loop-after-preserved
loop-after-preserved c =
    let made : c.push-in-Some.new.self.items ≡ c.loop-after.items.items ++ c.in_ok-item.item ∷ [] =
    rw c.in_ok-push-2.ensures.items refl in
    rw made (all_goes_on (name_item (utf8_in c.args.reader.text.now) (type_at (utf8_in c.args.reader.text.now) 0) 0
    (type_sound (utf8_in c.args.reader.text.now) 0))
    (no_name_at_end (utf8_in c.args.reader.text.now))
    c.loop-after.items.items c.in_ok-item.item c.loop-after.rest.now c.in_ok-item.after.now _
    ((name_here (utf8_in c.args.reader.text.now) c.loop-after.rest.now c.in-Some.after.now c.in-Some.ensures.value
    ∙ ap just (rw c.at.ensures.value at c.in_ok-item.ensures.value))) c.loop-after.invariant)

pub returns : goal.returns
returns c =
    record {
      read = all_ends (name_step (utf8_in c.args.reader.text.now)) c.loop-after.items.items c.loop-after.rest.now _
          (name_gone (utf8_in c.args.reader.text.now) c.loop-after.rest.now c.in_default.ensures.value)
          c.loop-after.invariant;
    }
