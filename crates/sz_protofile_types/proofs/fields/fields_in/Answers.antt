use Rattle.std.proofs.Common.{List, ◌++◌, sym, ap, ◌∙◌}
use Rattle.std.proofs.lemmas.List.{append_assoc, append-nil}
use Rattle.sz_protofile.specs.declared.field.FieldIn.{FieldIn}
use Rattle.sz_protofile.specs.Names.{spelled}
use Rattle.sz_protofile_types.proofs.StepLemmas.{fields_step, fields_end}
use Rattle.sz_protofile_types.proofs.fields.fields_in.Goals as goal

pub loop-line-preserved : goal.loop-line-preserved
loop-line-preserved c =
    rw (c.in_ok-take_field.ensures.ok, c.in_ok-step.ensures.ok, c.as_slice.ensures.value)
    (append_assoc c.loop-line.fields.items _ _
    ∙ ap (λ (l : List FieldIn). c.loop-line.fields.items ++ l)
    (sym (fields_step (spelled c.args.bytes.now) c.args.lines.now c.loop-line.line-index _
    c.loop-line-test.true c.loop-line.around.items c.args.known.now c.args.messages.now))
    ∙ c.loop-line.invariant)

pub returns : goal.returns
returns c = record {
  value = sym (ap (λ (l : List FieldIn). c.loop-line.fields.items ++ l)
      (fields_end (spelled c.args.bytes.now) c.args.lines.now c.loop-line.line-index c.loop-line-test.false
      c.loop-line.around.items c.args.known.now c.args.messages.now)
      ∙ append-nil c.loop-line.fields.items) ∙ c.loop-line.invariant;
}
