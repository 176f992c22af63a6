use Rattle.std.proofs.Common.{Bool, ◌+◌, drop, sym, ap, ◌∙◌}
use Rattle.sz_proto.specs.Elements.{truths, last_or}
use Rattle.sz_proto.specs.Found.{contents}
use Rattle.sz_proto.proofs.SingleLemmas.{from_next, from_last, truth_next, truth_end}
use Rattle.sz_proto.proofs.singles.last_truth.Goals as goal

pub loop-field-preserved : goal.loop-field-preserved
loop-field-preserved c = λ bytes. (
    let rest = contents bytes (drop (c.loop-field.field-index + 1) c.args.run.now) in
    ap (λ (b : Bool). last_or b (truths rest)) c.unwrap_or-last.ensures
    ∙ truth_next c.loop-field.last _ rest c.truth_in.result (c.truth_in.ensures.value bytes)
    ∙ sym (from_next (λ cs. last_or c.loop-field.last (truths cs)) bytes c.args.run.now c.loop-field.field-index _
    c.loop-field-test.true)
    ∙ c.loop-field.invariant bytes)

pub returns : goal.returns
returns c = record {
  value = λ bytes. sym (truth_end c.loop-field.last) ∙ sym (from_last (λ cs. last_or c.loop-field.last (truths cs))
      bytes c.args.run.now c.loop-field.field-index c.loop-field-test.false)
      ∙ c.loop-field.invariant bytes;
}
