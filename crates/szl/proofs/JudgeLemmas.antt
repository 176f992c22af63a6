-- How a text is judged step by step: its tokens and its tree.
use Rattle.std.proofs.Common.{◌≡◌, ◌⊎◌, inl, inr, ℕ, List, refl, sym, subst}
use Rattle.sz_lex.specs.declared.error.LexError.{LexError}
use Rattle.sz_lex.specs.declared.error.LexError.TheVariants as lexing
use Rattle.sz_lex.specs.Tokens.{HasTokens, IsRefused}
use Rattle.sz_lex.specs.Lexed.{Lexed}
use Rattle.sz_parse.specs.declared.error.ParseError.{ParseError}
use Rattle.sz_parse.specs.declared.error.ParseError.TheVariants as parsing
use Rattle.sz_parse.specs.Program.{IsStuck}
use Rattle.sz_parse.specs.Parsed.{OrNoMemory}
use Rattle.sz_refusals.specs.Texts.{IsShort}
use Rattle.sz_refusals.proofs.ForCallers.{has_stuck_tokens}
use Rattle.szl.specs.Judging.{failure_of_lexing, failure_of_parsing, IsFailureOf}

-- a text without tokens is refused
refused_failure : (text : List ℕ) (e : LexError) → IsShort text → IsRefused text e → IsFailureOf text (failure_of_lexing e)
refused_failure text (lexing.BadChar q) short h = ((short, h), refl)
refused_failure text (lexing.BadLiteral q) short h = ((short, h), refl)
refused_failure text (lexing.NotUtf8 q) short h = ((short, h), refl)
refused_failure text lexing.NoMemory short h = tt

pub unread_failure : (text : List ℕ) (e : LexError) → IsShort text → (e ≡ lexing.NoMemory) ⊎ IsRefused text e
    → IsFailureOf text (failure_of_lexing e)
unread_failure text e short (inl is) = subst (λ x. IsFailureOf text (failure_of_lexing x)) (sym is) tt
unread_failure text e short (inr h) = refused_failure text e short h

-- tokens that are stuck are refused
pub stuck_failure : (text : List ℕ) (tokens : Lexed) (e : ParseError) → IsShort text → HasTokens text tokens.tokens → tokens.text ≡ text
    → OrNoMemory e (λ p. IsStuck tokens p) → IsFailureOf text (failure_of_parsing e)
stuck_failure text tokens (parsing.Syntax q) short has is h = ((short, has_stuck_tokens text tokens q has is h), refl)
stuck_failure text tokens parsing.NoMemory short has is h = tt
