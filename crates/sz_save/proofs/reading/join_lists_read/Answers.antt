-- Each turn reads one index list more, and joins it at its place.
use Rattle.std.proofs.Common.{◌∙◌, sym}
use Rattle.std.proofs.lemmas.Result.{err_from_is_err_and}
use Rattle.sz_types.specs.SeenTables.{seen_table}
use Rattle.sz_save.proofs.ReadingLemmas.{count_stops, some_at_zero, reading_begins, entry_stops, reading_breaks, reading_can, reading_goes, rest_can, reading_ends, all_joined}
use Rattle.sz_save.proofs.reading.join_lists_read.Goals as goal

pub returns-in_err-count-clause-stopped : goal.returns-in_err-count-clause-stopped
returns-in_err-count-clause-stopped c =
    let p = err_from_is_err_and c.from_residual.result c.from_residual.ensures.1 in
    rw (p.1, p.2) (count_stops c.args.bound (seen_table c.args.table.now)
    c.args.flat.now c.in_err-count.field-0.0 c.in_err-count.ensures.value)

pub returns-then-not-may_have-clause-stopped : goal.returns-then-not-may_have-clause-stopped
returns-then-not-may_have-clause-stopped c =
    some_at_zero c.args.bound (seen_table c.args.table.now)
    c.args.flat.now c.in_ok-count.count c.in_ok-count.rest.now c.in_ok-count.ensures.value
    (sym c.may_have.ensures.value ∙ c.if-not-may_have.true)

pub loop-init : goal.loop-init
loop-init c =
    reading_begins c.args.bound (seen_table c.args.table.now)
    c.args.flat.now c.args.kept c.in_ok-count.count c.in_ok-count.rest.now c.in_ok-walk.walk.joined
    c.in_ok-walk.walk.left.items c.in_ok-count.ensures.value c.in_ok-walk.ensures.joined c.in_ok-walk.ensures.left

pub returns-in_err-entry-clause-stopped : goal.returns-in_err-entry-clause-stopped
returns-in_err-entry-clause-stopped c =
    let p = err_from_is_err_and c.from_residual-in_err-entry.result c.from_residual-in_err-entry.ensures.1 in
    rw (p.1, p.2) (entry_stops c.args.bound (seen_table c.args.table.now)
    c.args.flat.now c.args.kept c.in_ok-count.count c.loop.counter c.loop.rest.now
    c.loop.walk.joined c.loop.walk.left.items c.loop.invariant c.loop-test.true c.in_err-entry.field-0.0
    c.in_err-entry.ensures.value)

pub returns-then-not-is_above_last-clause-stopped : goal.returns-then-not-is_above_last-clause-stopped
returns-then-not-is_above_last-clause-stopped c =
    reading_breaks c.args.bound (seen_table c.args.table.now)
    c.args.flat.now c.args.kept c.in_ok-count.count c.loop.counter c.loop.rest.now c.loop.walk.joined
    c.loop.walk.left.items c.loop.invariant c.loop-test.true c.in_ok-entry.entry c.in_ok-entry.after.now
    c.in_ok-entry.ensures.value (sym c.is_above_last.ensures.value ∙ c.if-not-is_above_last.true)

pub join_entry-requires : goal.join_entry-requires
join_entry-requires c = record {
  can = reading_can c.args.bound (seen_table c.args.table.now)
      c.args.flat.now c.args.kept c.in_ok-count.count c.loop.counter c.loop.rest.now c.loop.walk.joined
      c.loop.walk.left.items c.loop.invariant c.requires.can c.in_ok-entry.entry c.in_ok-entry.after.now
      c.in_ok-entry.ensures.value;
}

pub loop-preserved : goal.loop-preserved
loop-preserved c =
    reading_goes c.args.bound (seen_table c.args.table.now)
    c.args.flat.now c.args.kept c.in_ok-count.count c.loop.counter c.loop.rest.now c.loop.walk.joined
    c.loop.walk.left.items c.loop.invariant c.loop-test.true c.in_ok-entry.entry c.in_ok-entry.after.now
    c.in_ok-entry.ensures.value c.in_ok-next.next.joined c.in_ok-next.next.left.items
    (sym c.is_above_last.ensures.value ∙ c.if-not-is_above_last.false) c.in_ok-next.ensures.value
    c.in_ok-next.ensures.last

pub join_rest-requires-clause-can : goal.join_rest-requires-clause-can
join_rest-requires-clause-can c =
    rest_can c.args.bound (seen_table c.args.table.now)
    c.args.flat.now c.args.kept c.in_ok-count.count c.loop.counter c.loop.rest.now c.loop.walk.joined
    c.loop.walk.left.items c.loop.invariant c.loop-test.false c.requires.can

pub join_rest-requires-clause-few : goal.join_rest-requires-clause-few
join_rest-requires-clause-few c = c.loop.invariant.few

pub returns-clause-value : goal.returns-clause-value
returns-clause-value c = record {
  entries = c.loop.invariant.done;
  found = reading_ends c.args.bound (seen_table c.args.table.now)
      c.args.flat.now c.args.kept c.in_ok-count.count c.loop.counter c.loop.rest.now
      c.loop.walk.joined c.loop.walk.left.items c.loop.invariant c.loop-test.false
      (sym c.may_have.ensures.value ∙ c.if-not-may_have.false);
  is = all_joined c.args.bound (seen_table c.args.table.now)
      c.args.flat.now c.args.kept c.in_ok-count.count c.loop.counter c.loop.rest.now c.loop.walk.joined
      c.loop.walk.left.items c.loop.invariant c.loop-test.false c.in_ok-joined.joined c.in_ok-joined.ensures.value;
  counted = c.in_ok-joined.ensures.counted;
}
