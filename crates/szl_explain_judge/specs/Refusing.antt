-- What a text is: a program, or refused for a cause, at a place and with a name.
use Rattle.std.specs.Prelude.{◌≡◌, ◌⊎◌, ℕ, List, None, Result, Ok, Err, ⊤}
use Rattle.sz_lex.specs.declared.error.LexError.{LexError}
use Rattle.sz_lex.specs.declared.error.LexError.TheVariants as lexing
use Rattle.sz_tree.specs.Statements.{Stms}
use Rattle.sz_parse.specs.declared.error.ParseError.{ParseError}
use Rattle.sz_parse.specs.declared.error.ParseError.TheVariants as parsing
use Rattle.sz_core.specs.Programs.{Core}
use Rattle.sz_check_rules.specs.JudgingPrograms.{judge_program}
use Rattle.sz_check_rules.specs.declared.cause.Cause.TheVariants.{BadChar, BadLiteral, NotUtf8, Syntax}
use Rattle.sz_refusals.specs.declared.refusal.Refusal.{Refusal}
use Rattle.sz_refusals.specs.Refusing.{refusal_at, judged_so}
use Rattle.sz_refusals.specs.Texts.{IsShort, HasStatements, IsUnreadable}
use Rattle.szl_explain_judge.specs.declared.stop.Stop.{Stop}
use Rattle.szl_explain_judge.specs.declared.stop.Stop.TheVariants.{Refused, NoMemory}

-- the checked program that statements are, or their first refusal
unfoldable pub checked : Stms → Result Core Refusal
checked statements = judged_so (judge_program statements)

-- the text is within the limit and spells statements, which are a program
pub record IsProgram (text : List ℕ) : Type 0 where
  pub short : IsShort text
  pub statements : Stms
  pub program : Core
  pub spelled : HasStatements text statements
  pub judged : checked statements ≡ Ok program

-- the text is within the limit and spells statements, and their first refusal is this
pub record IsJudged (text : List ℕ) (r : Refusal) : Type 0 where
  pub short : IsShort text
  pub statements : Stms
  pub spelled : HasStatements text statements
  pub judged : checked statements ≡ Err r

-- the text is refused so: it can't be read, or its statements are no program
abbrev pub IsRefused : List ℕ → Refusal → Type 0
IsRefused text r = (IsUnreadable text r.cause r.place × (r.name ≡ None)) ⊎ IsJudged text r

-- the stop is the refusal of the text, or want of memory
abbrev pub IsStopOf : List ℕ → Stop → Type 0
IsStopOf text NoMemory = ⊤
IsStopOf text (Refused r) = IsRefused text r

-- the stop is the refusal of a text that can't be read, or want of memory
abbrev pub IsUnreadStop : List ℕ → Stop → Type 0
IsUnreadStop text NoMemory = ⊤
IsUnreadStop text (Refused r) = IsUnreadable text r.cause r.place × (r.name ≡ None)

-- the stop is the refusal of what statements are, or want of memory
abbrev pub IsStopOn : Result Core Refusal → Stop → Type 0
IsStopOn found NoMemory = ⊤
IsStopOn found (Refused r) = found ≡ Err r

-- the stop of a text without tokens
abbrev pub stop_of_lexing : LexError → Stop
stop_of_lexing (lexing.BadChar place) = Refused (refusal_at BadChar place)
stop_of_lexing (lexing.BadLiteral place) = Refused (refusal_at BadLiteral place)
stop_of_lexing (lexing.NotUtf8 place) = Refused (refusal_at NotUtf8 place)
stop_of_lexing lexing.NoMemory = NoMemory

-- the stop of tokens without a tree
abbrev pub stop_of_parsing : ParseError → Stop
stop_of_parsing (parsing.Syntax place) = Refused (refusal_at Syntax place)
stop_of_parsing parsing.NoMemory = NoMemory
