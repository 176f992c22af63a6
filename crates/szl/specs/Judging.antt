-- What judging a program's text gives, step by step.
use Rattle.std.specs.Prelude.{◌≡◌, List, ℕ, ⊤, Result, Err}
use Rattle.sz_words.specs.declared.error.WordsError.{WordsError}
use Rattle.sz_words.specs.declared.error.WordsError.TheVariants as words
use Rattle.sz_lex.specs.declared.error.LexError.{LexError}
use Rattle.sz_lex.specs.declared.error.LexError.TheVariants as lexing
use Rattle.sz_parse.specs.declared.error.ParseError.{ParseError}
use Rattle.sz_parse.specs.declared.error.ParseError.TheVariants as parsing
use Rattle.sz_check_rules.specs.declared.cause.Cause.TheVariants as causes
use Rattle.szl.specs.declared.failure.Failure.{Failure}
use Rattle.szl.specs.declared.failure.Failure.TheVariants.{Usage, Refused, NoMemory}
use Rattle.sz_refusals.specs.declared.refusal.Refusal.{Refusal}
use Rattle.sz_refusals.specs.Refusing.{refusal_at}
use Rattle.szl.specs.Judgement.{IsRead, refused}

-- the failure for words without settings
abbrev pub failure_of_words : WordsError → Failure
failure_of_words words.Usage = Usage
failure_of_words words.NoMemory = NoMemory

-- the failure for a text without tokens
abbrev pub failure_of_lexing : LexError → Failure
failure_of_lexing (lexing.BadChar place) = Refused (refusal_at causes.BadChar place)
failure_of_lexing (lexing.BadLiteral place) = Refused (refusal_at causes.BadLiteral place)
failure_of_lexing (lexing.NotUtf8 place) = Refused (refusal_at causes.NotUtf8 place)
failure_of_lexing lexing.NoMemory = NoMemory

-- the failure for tokens without a tree
abbrev pub failure_of_parsing : ParseError → Failure
failure_of_parsing (parsing.Syntax place) = Refused (refusal_at causes.Syntax place)
failure_of_parsing parsing.NoMemory = NoMemory

-- the failure is the refusal that reading the text gives, or want of memory
abbrev pub IsFailureOf : List ℕ → Failure → Type 0
IsFailureOf text NoMemory = ⊤
IsFailureOf text (Refused r) = IsRead text (refused r)
IsFailureOf text failure = ⊥

-- the failure is the refusal of what statements are, or want of memory
abbrev pub IsFailureOn : {A : Type 0} → Result A Refusal → Failure → Type 0
IsFailureOn found NoMemory = ⊤
IsFailureOn found (Refused r) = found ≡ Err r
IsFailureOn found failure = ⊥
