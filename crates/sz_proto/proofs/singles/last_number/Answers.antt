use Rattle.std.proofs.Common.{◌≡◌, ℤ, ◌+◌, drop, to_z, of_z, w64, sym, ap, ◌∙◌, rules}
use Rattle.sz_proto.specs.Elements.{numbers, last_or}
use Rattle.sz_proto.specs.Found.{contents}
use Rattle.sz_proto.proofs.SingleLemmas.{from_next, from_last, number_next, number_end}
use Rattle.sz_proto.proofs.singles.last_number.Goals as goal

pub loop-field-preserved : goal.loop-field-preserved
loop-field-preserved c = λ bytes. (
    let rest = contents bytes (drop (c.loop-field.field-index + 1) c.args.run.now) in
    let back : to_z w64 (of_z w64 c.unwrap_or-last.result) ≡ c.unwrap_or-last.result = search rules in
    let last = to_z w64 c.loop-field.last-bits in
    ap (λ (n : ℤ). last_or n (numbers c.args.code rest)) (back ∙ c.unwrap_or-last.ensures)
    ∙ number_next c.args.code last _ rest c.number_in.result (c.number_in.ensures.value bytes)
    ∙ sym (from_next (λ cs. last_or last (numbers c.args.code cs)) bytes c.args.run.now c.loop-field.field-index _
    c.loop-field-test.true)
    ∙ c.loop-field.invariant bytes)

pub returns : goal.returns
returns c = record {
  value = λ bytes. (
      let last = to_z w64 c.loop-field.last-bits in
      sym (number_end c.args.code last)
      ∙ sym (from_last (λ cs. last_or last (numbers c.args.code cs)) bytes
      c.args.run.now c.loop-field.field-index c.loop-field-test.false)
      ∙ c.loop-field.invariant bytes);
}
