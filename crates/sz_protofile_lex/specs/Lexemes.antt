-- The bytes of a token.
use Rattle.std.specs.Prelude.{ℕ, List, take, drop}
use Rattle.sz_protofile_lex.specs.declared.token.Token.{Token}

-- the bytes of the text in a token's span
abbrev pub lexeme_of : List ℕ → Token → List ℕ
lexeme_of text t = take t.len (drop t.start text)
