use Rattle.std.proofs.Common.{sym, ap, ◌∙◌}
use Rattle.sz_proto.specs.Elements.{in_all}
use Rattle.sz_proto.specs.Found.{contents, array_of, octets_each}
use Rattle.sz_proto.proofs.GoingLemmas.{from_taken, from_end}
use Rattle.sz_proto.proofs.elements.octets.Goals as goal

pub loop-field-preserved : goal.loop-field-preserved
loop-field-preserved c = from_taken octets_each c.args.bytes.now c.args.run.now (in_all octets_each
    (contents c.args.bytes.now c.args.run.now)) c.loop-field.field-index _ _ _ _ c.loop-field.invariant
    c.loop-field-test.true c.if-not-branch.false c.in_ok-add_octets.ensures.value

pub returns : goal.returns
returns c = record {
  value = c.array.ensures.value
      ∙ sym (ap array_of (from_end octets_each c.args.bytes.now c.args.run.now (in_all octets_each (contents
      c.args.bytes.now c.args.run.now)) c.loop-field.field-index _ c.loop-field.invariant c.loop-field-test.false));
}
