use Rattle.std.proofs.Common.{List, ◌++◌, sym, ap, ◌∙◌}
use Rattle.std.proofs.lemmas.List.{append_assoc, append-nil}
use Rattle.sz_protofile.specs.declared.scope.Scope.{Scope}
use Rattle.sz_protofile.specs.Names.{spelled}
use Rattle.sz_protofile_types.proofs.StepLemmas.{messages_step, messages_end}
use Rattle.sz_protofile_types.proofs.messages.messages_in.Goals as goal

pub loop-line-preserved : goal.loop-line-preserved
loop-line-preserved c =
    rw (c.in_ok-take_message.ensures.ok, c.in_ok-step.ensures.ok, c.as_slice.ensures.value)
    (append_assoc c.loop-line.messages.items _ _
    ∙ ap (λ (l : List Scope). c.loop-line.messages.items ++ l)
    (sym (messages_step (spelled c.args.bytes.now) c.args.lines.now c.loop-line.line-index _
    c.loop-line-test.true c.loop-line.around.items)) ∙ c.loop-line.invariant)

pub returns : goal.returns
returns c = record {
  value = sym (ap (λ (l : List Scope). c.loop-line.messages.items ++ l)
      (messages_end (spelled c.args.bytes.now)
      c.args.lines.now c.loop-line.line-index c.loop-line-test.false c.loop-line.around.items)
      ∙ append-nil c.loop-line.messages.items) ∙ c.loop-line.invariant;
}
