-- Each row does what the definition says.
use Rattle.std.proofs.Common.{rules, ◌≡◌}
use Rattle.std.proofs.lemmas.Result.{IfOk-weaker}
use Rattle.sz_instr.specs.declared.instr.Instr.TheVariants as instr
use Rattle.sz_machine.proofs.CoverLemmas.{is_apart}
use Rattle.sz_machine.proofs.acting.act_inside.Goals as goal

pub act_apart-requires : goal.act_apart-requires
act_apart-requires c = record {
  room = c.requires.room;
  apart = is_apart c.args.instr.now c.requires.inside (record {
    no_push = c.in_default.not-Push;
    no_local = c.in_default.not-Local;
    no_keep = c.in_default.not-Keep;
    no_clear = c.in_default.not-Clear;
    no_store = c.in_default.not-Store;
    no_binary = c.in_default.not-Binary;
    no_tick = c.in_default.not-Tick;
    no_jump = c.in_default.not-Jump;
    no_test = c.in_default.not-Test;
    no_andtest = c.in_default.not-AndTest;
    no_ortest = c.in_default.not-OrTest;
    no_emit = c.in_default.not-Emit;
    no_endrecord = c.in_default.not-EndRecord;
    no_apply = c.in_default.not-Apply;
    no_convert = c.in_default.not-Convert;
    no_slice = c.in_default.not-Slice;
    no_index = c.in_default.not-Index;
    no_field = c.in_default.not-Field;
  });
  covers = c.requires.covers;
}

pub returns-in-Local : goal.returns-in-Local
returns-in-Local c =
    let is : c.args.instr.now ≡ instr.Local c.in-Local.n = search rules in
    record {
      value = IfOk-weaker c.push_local.result _ _ (λ next does a at. rw is (does c.args.place a))
          (c.push_local.ensures.value c.args.code.now);
    }

pub returns-in-Keep : goal.returns-in-Keep
returns-in-Keep c =
    let is : c.args.instr.now ≡ instr.Keep c.in-Keep.n = search rules in
    record {
      value = IfOk-weaker c.keep.result _ _ (λ next does a at. rw is (does c.args.place a))
          (c.keep.ensures.value c.args.code.now);
    }

pub returns-in-Clear : goal.returns-in-Clear
returns-in-Clear c =
    let is : c.args.instr.now ≡ instr.Clear c.in-Clear.n = search rules in
    record { value = λ a at. rw is (c.clear.ensures.value c.args.code.now c.args.place a) }

pub returns-in_ok-binary-in-Binary : goal.returns-in_ok-binary-in-Binary
returns-in_ok-binary-in-Binary c =
    let is : c.args.instr.now ≡ instr.Binary c.in-Binary.op = search rules in
    record {
      value = λ a at. rw is
          (rw c.if_paid.ensures.value (c.in_ok-binary-in-Binary.ensures.value c.args.code.now c.args.place a));
    }

pub returns-in-Test : goal.returns-in-Test
returns-in-Test c =
    let is : c.args.instr.now ≡ instr.Test c.in-Test.to c.in-Test.past = search rules in
    record {
      value = rw c.rebuilt.ensures.value
          (IfOk-weaker c.test.result _ _ (λ next does a at. rw is (does a)) c.test.ensures.value);
    }

pub returns-in-AndTest : goal.returns-in-AndTest
returns-in-AndTest c =
    let is : c.args.instr.now ≡ instr.AndTest c.in-AndTest.to = search rules in
    record { value = λ a at. rw is (c.and_test.ensures.value c.args.code.now c.args.place a) }

pub returns-in-OrTest : goal.returns-in-OrTest
returns-in-OrTest c =
    let is : c.args.instr.now ≡ instr.OrTest c.in-OrTest.to = search rules in
    record { value = λ a at. rw is (c.or_test.ensures.value c.args.code.now c.args.place a) }

pub returns-in-Emit : goal.returns-in-Emit
returns-in-Emit c =
    let is : c.args.instr.now ≡ instr.Emit c.in-Emit.table c.in-Emit.indexes c.in-Emit.weighted = search rules in
    record { value = IfOk-weaker c.emit.result _ _ (λ next does a at. rw is (does a)) c.emit.ensures.value }

pub returns-in_ok-apply-in-Apply : goal.returns-in_ok-apply-in-Apply
returns-in_ok-apply-in-Apply c =
    let is : c.args.instr.now ≡ instr.Apply c.in-Apply.which = search rules in
    record {
      value = λ a at. rw is
          (rw c.if_paid-in-Apply.ensures.value (c.in_ok-apply-in-Apply.ensures.value c.args.code.now c.args.place a));
    }

pub returns-in_ok-index-in-Index : goal.returns-in_ok-index-in-Index
returns-in_ok-index-in-Index c =
    let is : c.args.instr.now ≡ instr.Index = search rules in
    record { value = λ a at. rw is (c.in_ok-index-in-Index.ensures.value c.args.code.now c.args.place a) }

pub returns-in_ok-field-in-Field : goal.returns-in_ok-field-in-Field
returns-in_ok-field-in-Field c =
    let is : c.args.instr.now ≡ instr.Field c.in-Field.n = search rules in
    record { value = λ a at. rw is (c.in_ok-field-in-Field.ensures.value c.args.code.now c.args.place a) }
