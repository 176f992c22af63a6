-- Each turn shows one table more.
use Rattle.std.proofs.Common.{◌*◌, ◌^◌, length, ap, arith}
use Rattle.sz_total.specs.States.{shown}
use Rattle.sz_save.proofs.SavingLemmas.{shown_more, shown_end}
use Rattle.sz_save.proofs.saving.tables_shown.Goals as goal

pub table_shown-requires : goal.table_shown-requires
table_shown-requires c = record {
  declared = omega (arith, c.loop-number-test.true, c.len-number-end.ensures.value, ap length c.requires.same);
}

pub loop-number-preserved : goal.loop-number-preserved
loop-number-preserved c =
    shown_more c.args.decls.now (shown c.args.total.now)
    (2 ^ 63 * c.args.total.now.count) c.loop-number.number c.loop-number.tables c.push.new.self c.in_ok-rows.rows
    (omega (arith, c.loop-number-test.true, c.len-number-end.ensures.value))
    c.in_ok-rows.ensures.value c.in_ok-rows.ensures.written c.in_ok-push.ensures.ok
    c.loop-number.invariant

pub returns : goal.returns
returns c = record {
  value = shown_end c.args.decls.now (shown c.args.total.now)
      (2 ^ 63 * c.args.total.now.count) c.loop-number.number c.loop-number.tables
      (omega (arith, c.loop-number-test.false, c.len-number-end.ensures.value)) c.loop-number.invariant;
  each = c.loop-number.invariant.written;
}
