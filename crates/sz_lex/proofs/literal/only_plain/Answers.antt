use Rattle.std.proofs.Common.{◌≡◌, ℕ, List, [], ◌∷◌, ◌++◌, sym, ap, ◌∙◌}
use Rattle.std.specs.Str.{chars}
use Rattle.std.specs.Char.{encode_utf8}
use Rattle.std.proofs.lemmas.Str.{chars_past_char, IsUtf8-past_char, chars-nil}
use Rattle.std.proofs.lemmas.List.{nil_from_length}
use Rattle.sz_lex.specs.Reading.{only_plain}
use Rattle.sz_lex.proofs.literal.only_plain.Goals as goal

-- Two characters are read off the text.
pub returns-in-Some : goal.returns-in-Some
returns-in-Some c =
    let first = c.in_ok-c.c in
    let rest = c.next.new.self.rest.now in
    let begins : c.args.text.now ≡ encode_utf8 first ++ rest =
    sym c.chars-chars.ensures.rest ∙ c.in_ok-c.ensures.steps.0 in
    let more = chars_past_char rest c.next-2.new.self.rest.now c.in-Some.field-0
    (IsUtf8-past_char c.args.text.now rest first c.utf8.text begins) c.in-Some.ensures.steps.0 in
    ap only_plain
    (sym (chars_past_char c.args.text.now rest first c.utf8.text begins ∙ ap (λ (cs : List ℕ). first ∷ cs) more))

-- One is, and nothing is left.
pub returns-in-None : goal.returns-in-None
returns-in-None c =
    let first = c.in_ok-c.c in
    let rest = c.next.new.self.rest.now in
    let begins : c.args.text.now ≡ encode_utf8 first ++ rest =
    sym c.chars-chars.ensures.rest ∙ c.in_ok-c.ensures.steps.0 in
    let nothing : chars rest ≡ [] = ap chars (nil_from_length rest c.in-None.ensures.steps.0.0) ∙ chars-nil in
    c.unescaped.ensures ∙ ap only_plain (sym (chars_past_char c.args.text.now rest first c.utf8.text begins
    ∙ ap (λ (cs : List ℕ). first ∷ cs) nothing))
