-- Which names a saved file can hold.
use Rattle.std.specs.Prelude.{ℕ, List, length}
use Rattle.sz_flat.specs.Spelling.{IsShort}
use Rattle.sz_lex.specs.Tokens.{IsLexeme}
use Rattle.sz_lex.specs.declared.token.Kind.TheVariants as kinds

-- the name is one that a program can have, no reserved word among them, and its length has 4 bytes
pub record HasName (name : List ℕ) : Type 0 where
  pub short : IsShort (length name)
  pub is : IsLexeme kinds.Name name
