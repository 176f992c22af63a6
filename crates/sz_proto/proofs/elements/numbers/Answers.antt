use Rattle.std.proofs.Common.{sym, ◌∙◌}
use Rattle.sz_proto.specs.Elements.{in_all, numbers_in}
use Rattle.sz_proto.specs.Found.{contents, whole_number, number_each}
use Rattle.sz_proto.proofs.GoingLemmas.{from_taken, from_left}
use Rattle.sz_proto.proofs.ElementLemmas.{each_end, each_none}
use Rattle.sz_proto.proofs.elements.numbers.Goals as goal

pub loop-field-preserved : goal.loop-field-preserved
loop-field-preserved c = from_taken (number_each c.args.is_time c.args.code) c.args.bytes.now c.args.run.now
    (in_all (number_each c.args.is_time c.args.code) (contents c.args.bytes.now c.args.run.now))
    c.loop-field.field-index _ _ _ _ c.loop-field.invariant
    c.loop-field-test.true c.if-not-branch.false c.in_ok-add_numbers.ensures.value

pub returns-then-not-branch : goal.returns-then-not-branch
returns-then-not-branch c = record {
  value = sym (each_none (numbers_in c.args.code) (whole_number c.args.is_time) c.args.bytes.now c.args.run.now
      (from_left (number_each c.args.is_time c.args.code) c.args.bytes.now c.args.run.now
      (in_all (number_each c.args.is_time c.args.code) (contents c.args.bytes.now c.args.run.now))
      c.loop-field.field-index _ _ _ _ c.loop-field.invariant
      c.loop-field-test.true c.if-not-branch.true c.in_ok-add_numbers.ensures.value));
}

pub returns : goal.returns
returns c = record {
  value = c.array.ensures.value ∙ sym (each_end (numbers_in c.args.code) (whole_number c.args.is_time)
      c.args.bytes.now c.args.run.now c.loop-field.field-index _ c.loop-field.invariant c.loop-field-test.false);
}
