-- A text with its tokens.
use Rattle.std.specs.Prelude.{ℕ, List, take, drop}
use Rattle.sz_lex.specs.declared.token.Token.{Token}

-- what contracts see of `Tokens`
pub record Lexed : Type 0 where
  pub text : List ℕ
  pub tokens : List Token

-- the bytes of the text in a token's span
abbrev pub lexeme_of : List ℕ → Token → List ℕ
lexeme_of text t = take t.len (drop t.start text)
