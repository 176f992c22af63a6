use Rattle.std.proofs.Common.{◌≡◌, Bool, true, false, None, List, ℕ, ap, refl, ◌∙◌}
use Rattle.std.specs.Str.{is_utf8, chars}
use Rattle.std.proofs.lemmas.Str.{is_utf8-from_IsUtf8, IsUtf8-from_is_utf8}
use Rattle.sz_lex.specs.Reading.{only_plain, plain_character}
use Rattle.sz_lex.proofs.literal.plain_character.Goals as goal

pub returns-in-Ok : goal.returns-in-Ok
returns-in-Ok c =
    let utf8 : is_utf8 c.args.bytes.now ≡ true = is_utf8-from_IsUtf8 c.args.bytes.now c.in-Ok.ensures.cases.1 in
    c.only_plain.ensures ∙ ap (λ (t : List ℕ). only_plain (chars t)) c.in-Ok.ensures.cases.0 ∙ (rw utf8 refl)

pub returns-in-Err : goal.returns-in-Err
returns-in-Err c = go (is_utf8 c.args.bytes.now) refl
  where
    go : (x : Bool) → is_utf8 c.args.bytes.now ≡ x → None ≡ plain_character c.args.bytes.now
    go true e = absurd (c.in-Err.ensures.cases.0 (IsUtf8-from_is_utf8 c.args.bytes.now e))
    go false e = rw e refl
