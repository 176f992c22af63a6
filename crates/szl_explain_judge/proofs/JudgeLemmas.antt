-- How a text is judged step by step: its tokens, its tree, and what the tree stands for.
use Rattle.std.proofs.Common.{◌≡◌, ◌⊎◌, inl, inr, ℕ, List, refl, sym, subst}
use Rattle.std.specs.Prelude.{Ok}
use Rattle.sz_lex.specs.declared.error.LexError.{LexError}
use Rattle.sz_lex.specs.declared.error.LexError.TheVariants as lexing
use Rattle.sz_lex.specs.Tokens.{HasTokens, IsRefused}
use Rattle.sz_lex.specs.Lexed.{Lexed}
use Rattle.sz_tree.specs.Statements.{Stms}
use Rattle.sz_parse.specs.declared.error.ParseError.{ParseError}
use Rattle.sz_parse.specs.declared.error.ParseError.TheVariants as parsing
use Rattle.sz_parse.specs.Program.{IsStuck}
use Rattle.sz_parse.specs.Parsed.{OrNoMemory}
use Rattle.sz_core.specs.Programs.{Core}
use Rattle.sz_refusals.specs.Texts.{IsShort, HasStatements}
use Rattle.sz_refusals.proofs.ForCallers.{has_stuck_tokens}
use Rattle.szl_explain_judge.specs.Refusing.{IsProgram, checked, stop_of_lexing, stop_of_parsing, IsUnreadStop, IsStopOf, IsStopOn}
use Rattle.szl_explain_judge.specs.declared.stop.Stop.{Stop}
use Rattle.szl_explain_judge.specs.declared.stop.Stop.TheVariants as stops

-- a text without tokens is refused
refused_stop : (text : List ℕ) (e : LexError) → IsShort text → IsRefused text e → IsUnreadStop text (stop_of_lexing e)
refused_stop text (lexing.BadChar q) short h = ((short, h), refl)
refused_stop text (lexing.BadLiteral q) short h = ((short, h), refl)
refused_stop text (lexing.NotUtf8 q) short h = ((short, h), refl)
refused_stop text lexing.NoMemory short h = tt

pub unread_stop : (text : List ℕ) (e : LexError) → IsShort text → (e ≡ lexing.NoMemory) ⊎ IsRefused text e
    → IsUnreadStop text (stop_of_lexing e)
unread_stop text e short (inl is) = subst (λ x. IsUnreadStop text (stop_of_lexing x)) (sym is) tt
unread_stop text e short (inr h) = refused_stop text e short h

-- tokens that are stuck are refused
pub stuck_stop : (text : List ℕ) (tokens : Lexed) (e : ParseError) → IsShort text → HasTokens text tokens.tokens
    → tokens.text ≡ text → OrNoMemory e (λ p. IsStuck tokens p) → IsUnreadStop text (stop_of_parsing e)
stuck_stop text tokens (parsing.Syntax q) short has is h = ((short, has_stuck_tokens text tokens q has is h), refl)
stuck_stop text tokens parsing.NoMemory short has is h = tt

-- what stops the reading of a text stops the judgement of it
pub unread_is_stop : (text : List ℕ) (s : Stop) → IsUnreadStop text s → IsStopOf text s
unread_is_stop text (stops.Refused r) h = inl h
unread_is_stop text stops.NoMemory h = tt

-- what stops the judgement of the statements of a text stops that of the text
pub judged_is_stop : (text : List ℕ) (ss : Stms) (s : Stop) → IsShort text → HasStatements text ss
    → IsStopOn (checked ss) s → IsStopOf text s
judged_is_stop text ss (stops.Refused r) short has h =
    inr (record { short = short; statements = ss; spelled = has; judged = h })
judged_is_stop text ss stops.NoMemory short has h = tt

-- a text whose statements are a program is one
pub spelled_program : (text : List ℕ) (ss : Stms) (program : Core) → IsShort text → HasStatements text ss
    → checked ss ≡ Ok program → IsProgram text
spelled_program text ss program short has h = record {
  short = short;
  statements = ss;
  program = program;
  spelled = has;
  judged = h;
}
