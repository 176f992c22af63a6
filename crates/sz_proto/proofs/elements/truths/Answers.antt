use Rattle.std.proofs.Common.{sym, ◌∙◌}
use Rattle.sz_value.specs.Data as values
use Rattle.sz_proto.specs.Elements.{in_all, truths_in}
use Rattle.sz_proto.specs.Found.{contents, truth_each}
use Rattle.sz_proto.proofs.GoingLemmas.{from_taken, from_left}
use Rattle.sz_proto.proofs.ElementLemmas.{each_end, each_none}
use Rattle.sz_proto.proofs.elements.truths.Goals as goal

pub loop-field-preserved : goal.loop-field-preserved
loop-field-preserved c = from_taken truth_each c.args.bytes.now c.args.run.now (in_all truth_each
    (contents c.args.bytes.now c.args.run.now)) c.loop-field.field-index _ _ _ _ c.loop-field.invariant
    c.loop-field-test.true c.if-not-branch.false c.in_ok-add_truths.ensures.value

pub returns-then-not-branch : goal.returns-then-not-branch
returns-then-not-branch c = record {
  value = sym (each_none truths_in values.truth c.args.bytes.now c.args.run.now
      (from_left truth_each c.args.bytes.now c.args.run.now (in_all truth_each
      (contents c.args.bytes.now c.args.run.now)) c.loop-field.field-index _ _ _ _ c.loop-field.invariant
      c.loop-field-test.true c.if-not-branch.true c.in_ok-add_truths.ensures.value));
}

pub returns : goal.returns
returns c = record {
  value = c.array.ensures.value ∙ sym (each_end truths_in values.truth c.args.bytes.now c.args.run.now
      c.loop-field.field-index _ c.loop-field.invariant c.loop-field-test.false);
}
