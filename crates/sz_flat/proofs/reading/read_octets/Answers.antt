-- Without a string there is no value.
use Rattle.std.proofs.Common.{◌∷◌}
use Rattle.std.proofs.lemmas.Result.{err_from_is_err_and}
use Rattle.sz_flat.specs.Reading.{values, strings}
use Rattle.sz_flat.proofs.ReadingLemmas.{stops_too, no_octets}
use Rattle.sz_flat.proofs.reading.read_octets.Goals as goal

pub returns-in_err-string : goal.returns-in_err-string
returns-in_err-string c =
    let p = err_from_is_err_and c.from_residual.result c.from_residual.ensures.1 in
    let flat = c.args.flat.now in
    record {
      value = rw (p.1, p.2) (stops_too strings values flat
          (5 ∷ flat) c.in_err-string.field-0.0 (no_octets flat) c.in_err-string.ensures.value);
    }
