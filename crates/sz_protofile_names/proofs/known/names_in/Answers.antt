use Rattle.std.proofs.Common.{◌≤◌, ◌+◌, sym, subst, ◌∙◌}
use Rattle.sz_protofile.specs.Names.{spelled}
use Rattle.sz_protofile_names.proofs.LoopLemmas.{names_step, names_end, again_few}
use Rattle.sz_protofile_names.proofs.known.names_in.Goals as goal

pub loop-line-preserved : goal.loop-line-preserved
loop-line-preserved c = (
  rw (
    c.in_ok-first.ensures.ok,
    c.in_ok-step.ensures.ok,
    c.again_after-again.ensures.value,
    c.in_ok-first.ensures.first,
    c.as_slice.ensures.value,
  )
      (sym (names_step (spelled c.args.bytes.now) c.args.lines.now c.loop-line.line-index _
      c.loop-line-test.true c.loop-line.names c.loop-line.around.items c.loop-line.again) ∙ c.loop-line.invariant.0),
  subst (λ k. k ≤ c.loop-line.line-index + 1) (sym c.again_after-again.ensures.value)
      (again_few _ c.loop-line.again _ c.loop-line.line-index c.loop-line.invariant.1),
)

pub returns : goal.returns
returns c = record {
  value = sym (names_end (spelled c.args.bytes.now) c.args.lines.now c.loop-line.line-index c.loop-line-test.false
      c.loop-line.names c.loop-line.around.items c.loop-line.again) ∙ c.loop-line.invariant.0;
}
