use Rattle.std.proofs.Common.{sym, ◌∙◌}
use Rattle.sz_proto.specs.Elements.{in_all}
use Rattle.sz_proto.specs.Found.{contents, fields_each}
use Rattle.sz_proto.proofs.GoingLemmas.{from_taken, from_left, from_end}
use Rattle.sz_proto.proofs.ReadingLemmas.{found_each}
use Rattle.sz_proto.proofs.finding.all_fields.Goals as goal

pub returns-then-not-branch-clause-value : goal.returns-then-not-branch-clause-value
returns-then-not-branch-clause-value c =
    let cs = contents c.args.bytes.now c.args.run.now in
    sym (from_left (fields_each c.args.depth) c.args.bytes.now c.args.run.now (in_all (fields_each c.args.depth) cs)
    c.loop-field.field-index _ _ _ _ c.loop-field.invariant.0 c.loop-field-test.true c.if-not-branch.true
    c.in_ok-add_fields.ensures.read) ∙ found_each c.args.depth cs

pub loop-field-preserved : goal.loop-field-preserved
loop-field-preserved c =
    let cs = contents c.args.bytes.now c.args.run.now in (
      from_taken (fields_each c.args.depth) c.args.bytes.now c.args.run.now (in_all (fields_each c.args.depth) cs)
          c.loop-field.field-index _ _ _ _
          c.loop-field.invariant.0 c.loop-field-test.true c.if-not-branch.false c.in_ok-add_fields.ensures.read,
      c.in_ok-add_fields.ensures.within,
    )

pub returns-clause-value : goal.returns-clause-value
returns-clause-value c =
    let cs = contents c.args.bytes.now c.args.run.now in
    sym (from_end (fields_each c.args.depth) c.args.bytes.now c.args.run.now (in_all (fields_each c.args.depth) cs)
    c.loop-field.field-index _ c.loop-field.invariant.0 c.loop-field-test.false) ∙ found_each c.args.depth cs
