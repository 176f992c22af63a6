use Rattle.std.proofs.Common.{◌≡◌, refl, sym, true, false, ◌∙◌, ap}
use Rattle.std.proofs.lemmas.Str.{IsUtf8-from_is_utf8, is_utf8-from_IsUtf8}
use Rattle.std.specs.Str.{is_utf8}
use Rattle.sz_protofile_lex.specs.Lexemes.{lexeme_of}
use Rattle.sz_protofile_names.proofs.words.spelled.Goals as goal

pub returns-in-Ok : goal.returns-in-Ok
returns-in-Ok c = record {
  value = let word = lexeme_of c.args.bytes.now c.args.token.now in
      let same : c.lexeme.result.now ≡ word = c.lexeme.ensures.value in
      let yes : is_utf8 word ≡ true =
      ap is_utf8 (sym same) ∙ is_utf8-from_IsUtf8 c.lexeme.result.now c.in-Ok.ensures.cases.1 in
      rw yes (c.in-Ok.ensures.cases.0 ∙ same);
}

pub returns-in-Err : goal.returns-in-Err
returns-in-Err c = record {
  value = let word = lexeme_of c.args.bytes.now c.args.token.now in
      let same : c.lexeme.result.now ≡ word = c.lexeme.ensures.value in
      let no : is_utf8 c.lexeme.result.now ≡ false =
      elim (is_utf8 c.lexeme.result.now) as (λ v. is_utf8 c.lexeme.result.now ≡ v → v ≡ false) [
        | true ↦ λ e. absurd (c.in-Err.ensures.cases.0 (IsUtf8-from_is_utf8 c.lexeme.result.now e))
        | false ↦ λ e. refl
      ] refl in
      rw (ap is_utf8 (sym same) ∙ no) refl;
}
