-- What the text of a program is before it is judged: it spells statements, or it can't be read, for a cause at a place.
use Rattle.std.specs.Prelude.{◌≡◌, ℕ, ◌<◌, ◌≤◌, List, length}
use Rattle.sz_types.specs.declared.place.Place.{Place}
use Rattle.sz_lex.specs.declared.token.Token.{Token}
use Rattle.sz_lex.specs.Tokens.{HasTokens, HasBadChar, HasBadLiteral, HasNotUtf8, first_place}
use Rattle.sz_tree.specs.Statements.{Stms}
use Rattle.sz_parse.specs.Program.{Spells, IsStuck}
use Rattle.sz_check_rules.specs.declared.cause.Cause.{Cause}
use Rattle.sz_check_rules.specs.declared.cause.Cause.TheVariants.{BadChar, BadLiteral, NotUtf8, TooLong, Syntax}

-- the most bytes of a program's text
abbrev pub most_program_bytes : ℕ
most_program_bytes = 1048576

-- the text is within the limit
abbrev pub IsShort : List ℕ → Type 0
IsShort text = length text ≤ most_program_bytes

-- the text has tokens, and these are stuck at the place
pub record HasStuckTokens (text : List ℕ) (place : Place) : Type 0 where
  pub tokens : List Token
  pub has : HasTokens text tokens
  pub stuck : IsStuck (record { text = text; tokens = tokens }) place

-- the text has tokens, and these spell the statements
pub record HasStatements (text : List ℕ) (statements : Stms) : Type 0 where
  pub tokens : List Token
  pub has : HasTokens text tokens
  pub spells : Spells (record { text = text; tokens = tokens }) statements

-- The text can't be read, for a cause at a place. It has one such cause at the most: the length is asked first, then
-- whether it is UTF-8; then the first byte or literal from the left that makes no token, whichever of the two stands
-- there; and then the first statement that isn't one
abbrev pub IsUnreadable : List ℕ → Cause → Place → Type 0
IsUnreadable text TooLong place = (most_program_bytes < length text) × (place ≡ first_place)
IsUnreadable text NotUtf8 place = IsShort text × HasNotUtf8 text place
IsUnreadable text BadChar place = IsShort text × HasBadChar text place
IsUnreadable text BadLiteral place = IsShort text × HasBadLiteral text place
IsUnreadable text Syntax place = IsShort text × HasStuckTokens text place
IsUnreadable text cause place = ⊥
