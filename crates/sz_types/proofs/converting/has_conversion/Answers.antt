-- Bytes have no further rows.
use Rattle.std.proofs.Common.{sym}
use Rattle.sz_types.proofs.SeenLemmas.{seen_bytes}
use Rattle.sz_types.proofs.ConversionLemmas.{bytes_rows}
use Rattle.sz_types.proofs.converting.has_conversion.Goals as goal

pub returns-in_default-2 : goal.returns-in_default-2
returns-in_default-2 c =
    let none = bytes_rows c.args.to.now c.in_default.not-Int-1 c.in_default.not-Str-1 c.in_default.not-Proto-1 in
    record { value = rw (c.in_default.is-0, seen_bytes) (sym none) }
