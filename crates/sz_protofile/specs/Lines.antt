-- Which lines a file has, or where it is refused.
use Rattle.std.specs.Prelude.{◌≡◌, ℕ, suc, pred, List, [], ◌∷◌, Some, Ok, Err, ◌==◌, if◌then◌else◌}
use Rattle.sz_types.specs.declared.place.Place.{Place}
use Rattle.sz_protofile_lex.specs.declared.token.Token.{Token}
use Rattle.sz_protofile_lex.specs.Lexemes.{lexeme_of}
use Rattle.sz_protofile_lex.specs.Tokens.{tokens_of}
use Rattle.sz_protofile.specs.declared.line.Line.{Line}
use Rattle.sz_protofile.specs.declared.line.Line.TheVariants as lines
use Rattle.sz_protofile.specs.declared.error.FileError.{FileError}
use Rattle.sz_protofile.specs.declared.error.FileError.TheVariants as errors
use Rattle.sz_protofile.specs.Reading.{Spelling}
use Rattle.sz_protofile.specs.Forms.{line_at}

-- how many messages are open after the line, where so many are before it
abbrev pub depth_after : Line → ℕ → ℕ
depth_after (lines.Message name) depth = suc depth
depth_after lines.End depth = pred depth
depth_after line depth = depth

-- the tokens begin with these lines inside so many messages; rest follows, inside so many
unfoldable pub Reads : Spelling → ℕ → List Line → List Token → ℕ → List Token → Type 0
Reads text depth [] ts end rest = (depth ≡ end) × (ts ≡ rest)
Reads text depth (line ∷ more) ts end rest = (mid : List Token) × (line_at text depth ts ≡ Some (line, mid))
    × Reads text (depth_after line depth) more mid end rest

-- the tokens begin with one or more whole parts of a file
pub record BeginsPart (text : Spelling) (ts : List Token) : Type 0 where
  pub line : Line
  pub more : List Line
  pub rest : List Token
  pub reads : Reads text 0 (line ∷ more) ts 0 rest

-- the file has these lines, and each message that begins ends
pub record HasLines (bytes : List ℕ) (all : List Line) : Type 0 where
  pub tokens : List Token
  pub lexed : tokens_of bytes ≡ Ok tokens
  pub reads : Reads (lexeme_of bytes) 0 all tokens 0 []

-- whole parts of a file, and at the place p a token at which none begins
pub record IsStuckAt (text : Spelling) (tokens : List Token) (p : Place) : Type 0 where
  pub front : List Line
  pub here : Token
  pub rest : List Token
  pub reads : Reads text 0 front tokens 0 (here ∷ rest)
  pub place : here.place ≡ p
  pub none : BeginsPart text (here ∷ rest) → ⊥

-- the bytes have no tokens, by the byte at p; or the tokens have no lines, by the token at p
pub data IsRefused (bytes : List ℕ) (p : Place) : Type 0 where
  no_tokens : tokens_of bytes ≡ Err p → IsRefused bytes p
  no_lines : (tokens : List Token) → tokens_of bytes ≡ Ok tokens → IsStuckAt (lexeme_of bytes) tokens p
      → IsRefused bytes p

-- memory ran out, or the place of the refusal is such
abbrev pub OrNoMemory : FileError → (Place → Type 0) → Type 0
OrNoMemory (errors.Syntax p) P = P p
OrNoMemory errors.NoMemory P = Unit {0}

-- where the part of the file begins that a token belongs to, if so many messages are open before it, of which the
-- outermost begins at p
abbrev pub place_in : ℕ → Place → Token → Place
place_in depth p t = if depth == 0 then t.place else p
