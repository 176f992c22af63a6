use Rattle.std.proofs.Common.{sym, ◌∙◌}
use Rattle.sz_protofile.specs.Names.{spelled}
use Rattle.sz_protofile_types.proofs.StepLemmas.{names_step, names_end}
use Rattle.sz_protofile_types.proofs.messages.message_names.Goals as goal

pub loop-line-preserved : goal.loop-line-preserved
loop-line-preserved c =
    rw (c.in_ok-name_message.ensures.ok, c.in_ok-step.ensures.ok, c.as_slice.ensures.value)
    (sym (names_step (spelled c.args.bytes.now) c.args.lines.now c.loop-line.line-index _
    c.loop-line-test.true c.loop-line.around.items c.loop-line.names) ∙ c.loop-line.invariant)

pub returns : goal.returns
returns c = record {
  value = sym (names_end (spelled c.args.bytes.now) c.args.lines.now c.loop-line.line-index c.loop-line-test.false
      c.loop-line.around.items c.loop-line.names) ∙ c.loop-line.invariant;
}
