use Rattle.std.proofs.Common.{◌≡◌, [], ◌∷◌, ◌++◌, refl, ap, ◌∙◌}
use Rattle.std.specs.Prelude.{map}
use Rattle.std.proofs.lemmas.Result.{err_from_is_err_and}
use Rattle.sz_tree.specs.View.{elem_of}
use Rattle.sz_parse_expr.specs.ReadingTypes.{type_at}
use Rattle.sz_parse.specs.ReadingTables.{table_index_step}
use Rattle.sz_parse_expr.specs.Reading.{utf8_in}
use Rattle.sz_parse_expr.proofs.TypeSound.{type_sound}
use Rattle.sz_parse.proofs.TableSound.{table_index_item}
use Rattle.sz_parse_expr.proofs.Loops.{all_goes_on, all_fails, all_ends, item_shorter}
use Rattle.sz_parse_expr.proofs.ExpressionRows.{just, map_push}
use Rattle.sz_parse.proofs.StatementTurns.{all_start}
use Rattle.sz_parse.proofs.StatementTurns.{table_index_here, table_index_gone, no_table_index_at_end}
use Rattle.sz_parse.proofs.table.table_indexes.Goals as goal

pub loop-after-init : goal.loop-after-init
loop-after-init c =
    let made : (map elem_of c.new-items.result.items) ≡ [] = rw c.new-items.ensures.items refl in
    rw made (all_start (table_index_step (utf8_in c.args.reader.text.now)
    (type_at (utf8_in c.args.reader.text.now) c.args.reader.depth.levels))
    c.args.reader.tokens.now)

pub loop-after-smaller : goal.loop-after-smaller
loop-after-smaller c =
    item_shorter (table_index_item (utf8_in c.args.reader.text.now)
    (type_at (utf8_in c.args.reader.text.now) c.args.reader.depth.levels)
    c.args.reader.depth.levels
    (type_sound (utf8_in c.args.reader.text.now) c.args.reader.depth.levels))
    (elem_of c.in_ok-item.item) c.loop-after.rest.now c.in_ok-item.after.now
    ((table_index_here (utf8_in c.args.reader.text.now)
    (type_at (utf8_in c.args.reader.text.now) c.args.reader.depth.levels) c.loop-after.rest.now
    c.in-Some.after.now
    c.in-Some.ensures.value
    ∙ ap just (rw c.at.ensures.value at c.in_ok-item.ensures.read)))

pub returns-in_err-item : goal.returns-in_err-item
returns-in_err-item c =
    let p = err_from_is_err_and c.from_residual.result c.from_residual.ensures.1 in
    record {
      read = rw (p.1, p.2)
          (all_fails c.in_err-item.field-0.0
          (table_index_step (utf8_in c.args.reader.text.now)
          (type_at (utf8_in c.args.reader.text.now) c.args.reader.depth.levels))
          (no_table_index_at_end (utf8_in c.args.reader.text.now)
          (type_at (utf8_in c.args.reader.text.now) c.args.reader.depth.levels))
          (map elem_of c.loop-after.items.items) c.loop-after.rest.now _ _
          (table_index_here (utf8_in c.args.reader.text.now)
          (type_at (utf8_in c.args.reader.text.now) c.args.reader.depth.levels)
          c.loop-after.rest.now c.in-Some.after.now c.in-Some.ensures.value)
          (rw c.at.ensures.value at c.in_err-item.ensures.read)
          c.loop-after.invariant);
    }

pub loop-after-preserved : goal.loop-after-preserved
loop-after-preserved c =
    let made : (map elem_of c.push.new.self.items) ≡ (map elem_of c.loop-after.items.items)
    ++ (elem_of c.in_ok-item.item) ∷ [] =
    rw c.in_ok-push.ensures.items (map_push elem_of c.loop-after.items.items c.in_ok-item.item) in
    rw made (all_goes_on
    (table_index_item (utf8_in c.args.reader.text.now)
    (type_at (utf8_in c.args.reader.text.now) c.args.reader.depth.levels) c.args.reader.depth.levels
    (type_sound (utf8_in c.args.reader.text.now) c.args.reader.depth.levels))
    (no_table_index_at_end (utf8_in c.args.reader.text.now)
    (type_at (utf8_in c.args.reader.text.now) c.args.reader.depth.levels))
    (map elem_of c.loop-after.items.items)
    (elem_of c.in_ok-item.item) c.loop-after.rest.now c.in_ok-item.after.now _
    ((table_index_here (utf8_in c.args.reader.text.now)
    (type_at (utf8_in c.args.reader.text.now) c.args.reader.depth.levels) c.loop-after.rest.now
    c.in-Some.after.now
    c.in-Some.ensures.value
    ∙ ap just (rw c.at.ensures.value at c.in_ok-item.ensures.read))) c.loop-after.invariant)

pub returns : goal.returns
returns c =
    record {
      read = all_ends (table_index_step (utf8_in c.args.reader.text.now)
          (type_at (utf8_in c.args.reader.text.now) c.args.reader.depth.levels))
          (map elem_of c.loop-after.items.items) c.loop-after.rest.now _
          (table_index_gone (utf8_in c.args.reader.text.now)
          (type_at (utf8_in c.args.reader.text.now) c.args.reader.depth.levels)
          c.loop-after.rest.now c.in_default.ensures.value)
          c.loop-after.invariant;
    }
