use Rattle.std.proofs.Common.{subst, sym, ap, ◌≡◌, IsUtf8}
use Rattle.std.proofs.lemmas.Str.{IsUtf8-string_bytes}
use Rattle.std.specs.String.{string_bytes}
use Rattle.sz_types.proofs.text.Text.into_bytes.Goals as goal

-- The bytes are those of a string, and each string is UTF-8.
pub returns-clause-utf8 : goal.returns-clause-utf8
returns-clause-utf8 c =
    let same : string_bytes c.self.inside.string ≡ c.into_bytes.result.items =
    ap (λ v. v.items) (sym c.into_bytes.ensures.value) in
    subst IsUtf8 same (IsUtf8-string_bytes c.self.inside.string)
