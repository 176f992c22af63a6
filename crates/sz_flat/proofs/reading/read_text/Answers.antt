-- Without bytes there is no text, nor where they aren't UTF-8.
use Rattle.std.proofs.Common.{◌∷◌}
use Rattle.std.proofs.lemmas.Result.{err_from_is_err_and}
use Rattle.sz_flat.specs.Reading.{values, strings}
use Rattle.sz_flat.proofs.ReadingLemmas.{stops_too, no_text, not_utf8}
use Rattle.sz_flat.proofs.reading.read_text.Goals as goal

pub returns-in_err-string : goal.returns-in_err-string
returns-in_err-string c =
    let p = err_from_is_err_and c.from_residual.result c.from_residual.ensures.1 in
    let flat = c.args.flat.now in
    record {
      value = rw (p.1, p.2) (stops_too strings values flat
          (4 ∷ flat) c.in_err-string.field-0.0 (no_text flat) c.in_err-string.ensures.value);
    }

pub returns-in-Err : goal.returns-in-Err
returns-in-Err c = record {
  value = not_utf8 c.args.flat.now c.in_ok-string.string.now c.in_ok-string.rest.now c.in_ok-string.ensures.value
      c.in-Err.ensures.cases.0;
}
