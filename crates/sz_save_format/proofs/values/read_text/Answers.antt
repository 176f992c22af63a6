-- A string is a text where it is UTF-8.
use Rattle.std.proofs.Common.{◌∙◌, Some, sym}
use Rattle.sz_value.specs.Data.{str}
use Rattle.sz_save_format.proofs.ReadLemmas.{text_read, text_refused}
use Rattle.sz_save_format.proofs.values.read_text.Goals as goal

pub returns-in_ok-new-in-Ok : goal.returns-in_ok-new-in-Ok
returns-in_ok-new-in-Ok c =
    let rest = c.in_ok-string.rest.now in
    let same = c.in_ok-new-in-Ok.ensures.value ∙ c.in-Ok.ensures.cases.0 in
    record {
      value = text_read c.args.flat.now c.in_ok-rest.rest.now c.in_ok-string.string.now rest
          c.in_ok-rest.ensures.value c.in_ok-string.ensures.value c.in-Ok.ensures.cases.1
          ∙ (λ i. Some (str (sym same i), rest));
    }

pub returns-in-Err : goal.returns-in-Err
returns-in-Err c = record {
  value = text_refused c.args.flat.now c.in_ok-rest.rest.now c.in_ok-string.string.now c.in_ok-string.rest.now
      c.in_ok-rest.ensures.value c.in_ok-string.ensures.value c.in-Err.ensures.cases.0;
}
