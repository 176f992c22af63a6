use Rattle.std.proofs.Common.{ℕ, List, ◌+◌, drop, Some, sym, ap, ◌∙◌}
use Rattle.sz_value.specs.Data as values
use Rattle.sz_proto.specs.Payloads.{payloads}
use Rattle.sz_proto.specs.Elements.{last_or}
use Rattle.sz_proto.specs.Found.{contents}
use Rattle.sz_proto.proofs.SingleLemmas.{from_next, from_last, payload_next, octets_end}
use Rattle.sz_proto.proofs.singles.last_octets.Goals as goal

pub loop-field-preserved : goal.loop-field-preserved
loop-field-preserved c =
    let bytes = c.args.bytes.now in
    let rest = contents bytes (drop (c.loop-field.field-index + 1) c.args.run.now) in
    ap (λ (p : List ℕ). last_or p (payloads rest)) c.payload_or-last.ensures.value
    ∙ payload_next c.loop-field.last.now _ rest
    ∙ sym (from_next (λ cs. last_or c.loop-field.last.now (payloads cs)) bytes
    c.args.run.now c.loop-field.field-index _ c.loop-field-test.true)
    ∙ c.loop-field.invariant

pub returns : goal.returns
returns c =
    let bytes = c.args.bytes.now in
    let all = sym (octets_end c.loop-field.last.now) ∙ sym (from_last (λ cs. last_or c.loop-field.last.now
    (payloads cs)) bytes c.args.run.now c.loop-field.field-index c.loop-field-test.false)
    ∙ c.loop-field.invariant in
    record { value = ap (λ (p : List ℕ). Some (values.bytes p)) (c.in_ok-from_slice.ensures.value ∙ all) }
