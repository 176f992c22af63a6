use Rattle.std.proofs.Common.{ℕ, List, Some, sym, ap, ◌∙◌}
use Rattle.sz_value.specs.Data as values
use Rattle.sz_proto.specs.Found.{last_text_of}
use Rattle.sz_proto.proofs.SingleLemmas.{from_last, text_end}
use Rattle.sz_proto.proofs.singles.last_text.Goals as goal

pub returns : goal.returns
returns c =
    let last = c.loop-field.last.now in
    record {
      value = ap (λ (p : List ℕ). Some (values.str p)) c.in_ok-new.ensures.value ∙ sym (text_end last)
          ∙ sym (from_last (last_text_of last) c.args.bytes.now c.args.run.now c.loop-field.field-index
          c.loop-field-test.false) ∙ c.loop-field.invariant.1;
    }
