-- Without a number there is no value.
use Rattle.std.proofs.Common.{◌∷◌}
use Rattle.std.proofs.lemmas.Result.{err_from_is_err_and}
use Rattle.sz_flat.specs.Reading.{values, numbers}
use Rattle.sz_flat.proofs.ReadingLemmas.{stops_too, no_int}
use Rattle.sz_flat.proofs.reading.read_int.Goals as goal

pub returns-in_err-number : goal.returns-in_err-number
returns-in_err-number c =
    let p = err_from_is_err_and c.from_residual.result c.from_residual.ensures.1 in
    let flat = c.args.flat.now in
    record {
      value = rw (p.1, p.2) (stops_too numbers values flat
          (2 ∷ flat) c.in_err-number.field-0.0 (no_int flat) c.in_err-number.ensures.value);
    }
