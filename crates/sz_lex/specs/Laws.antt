-- Laws of tokens, in the words of a reader of programs. Each is proved, by an empty function of the crate.
use Rattle.std.specs.Prelude.{◌≡◌, ℕ, ◌+◌, ◌-◌, ◌<◌, ◌≤◌, ◌==◌, ◌||◌, ◌⊎◌, List, [], ◌∷◌, ◌++◌, length, take, drop, Some, true, false, map, All, IsUtf8}
use Rattle.sz_types.specs.declared.place.Place.{Place}
use Rattle.sz_lex.specs.declared.token.Token.{Token}
use Rattle.sz_lex.specs.declared.token.Kind.{Kind}
use Rattle.sz_lex.specs.declared.error.LexError.{LexError}
use Rattle.sz_lex.specs.declared.error.LexError.TheVariants as errors
use Rattle.sz_lex.specs.declared.escape.Quoted.{Quoted}
use Rattle.sz_lex.specs.declared.escape.Quoted.TheVariants as quoteds
use Rattle.sz_lex.specs.Classes.{is_blank}
use Rattle.sz_lex.specs.Literals.{IsQuoted}
use Rattle.sz_lex.specs.Tokens.{IsLexeme, gap_from, later, first_place, HasTokens, IsRefused}
use Rattle.sz_lex.specs.Lexed.{lexeme_of}

-- nothing but blanks and comments, of which the last may be ended by the end of the text
abbrev pub IsGap : List ℕ → Type 0
IsGap bytes = (comment : _) × (gap_from false bytes ≡ Some comment)

-- from this index on the spans of the tokens lie one after another in the text, with nothing but blanks and comments
-- before, between and after them, and each has its place and spells its kind
abbrev pub LieInOrder : List ℕ → ℕ → List Token → Type 0
LieInOrder text at [] = IsGap (drop at text)
LieInOrder text at (t ∷ ts) =
    (at ≤ t.start) × (t.start + t.len ≤ length text) × IsGap (take (t.start - at) (drop at text))
    × (t.place ≡ later (take t.start text) first_place) × IsLexeme t.kind (lexeme_of text t)
    × LieInOrder text (t.start + t.len) ts

-- the spans of a text's tokens lie one after another
abbrev pub SpansLieInOrder : Type 0
SpansLieInOrder = (text : List ℕ) (ts : List Token) → HasTokens text ts → LieInOrder text 0 ts

-- each text has tokens or is refused
abbrev pub EveryTextIsRead : Type 0
EveryTextIsRead = (text : List ℕ) → ((ts : List Token) × HasTokens text ts) ⊎ ((e : LexError) × IsRefused text e)

-- a text has at most one list of tokens
abbrev pub HasOneList : Type 0
HasOneList = (text : List ℕ) (ts us : List Token) → HasTokens text ts → HasTokens text us → ts ≡ us

-- a text that has tokens is refused for no reason, and no text is refused for two
abbrev pub HasNoRefusal : Type 0
HasNoRefusal = (text : List ℕ) (ts : List Token) (e : LexError) → HasTokens text ts → IsRefused text e → ⊥

abbrev pub HasOneRefusal : Type 0
HasOneRefusal = (text : List ℕ) (e f : LexError) → IsRefused text e → IsRefused text f → e ≡ f

-- the place of a refusal
abbrev pub place_of : LexError → Place
place_of (errors.BadChar q) = q
place_of (errors.BadLiteral q) = q
place_of (errors.NotUtf8 q) = q
place_of errors.NoMemory = first_place

-- a refused place is that of a byte of the text
abbrev pub RefusedPlaceIsInText : Type 0
RefusedPlaceIsInText = (text : List ℕ) (e : LexError) → IsRefused text e → (at : ℕ) × (at < length text)
    × (place_of e ≡ later (take at text) first_place)

-- a literal between double quotes stands for one value
abbrev pub HasOneValue : Type 0
HasOneValue = (q : Quoted) (literal v w : List ℕ) → IsQuoted q literal v → IsQuoted q literal w → v ≡ w

-- a kind, and bytes that spell it
pub record Spelled : Type 0 where
  pub kind : Kind
  pub text : List ℕ

-- the bytes are none, or begin with a blank or a comment
abbrev pub BeginsApart : List ℕ → Type 0
BeginsApart [] = Unit {0}
BeginsApart (b ∷ bs) = (is_blank b || b == 35) ≡ true

-- the text is the bytes of these tokens, with blanks and comments before and after them, and some between any two
abbrev pub IsWrittenApart : List Spelled → List ℕ → Type 0
IsWrittenApart [] text = IsGap text
IsWrittenApart (s ∷ ss) text =
    (gap rest : List ℕ) × (text ≡ gap ++ (s.text ++ rest)) × (gap_from false gap ≡ Some false)
    × IsLexeme s.kind s.text × BeginsApart rest × IsWrittenApart ss rest

-- a token's kind and its bytes in a text
abbrev pub spelled_in : List ℕ → Token → Spelled
spelled_in text t = record { kind = t.kind; text = lexeme_of text t }

-- tokens that are written apart are read as they were written, whatever blanks and comments stand between them
abbrev pub WrittenApartIsRead : Type 0
WrittenApartIsRead = (ss : List Spelled) (text : List ℕ) → IsUtf8 text → IsWrittenApart ss text
    → (ts : List Token) × HasTokens text ts × (map (spelled_in text) ts ≡ ss)

-- so two texts that differ only in what stands between tokens that are apart in both have the same kinds and values
abbrev pub BlanksMeanNothing : Type 0
BlanksMeanNothing = (ss : List Spelled) (a b : List ℕ) (ts us : List Token) → IsWrittenApart ss a → IsWrittenApart ss b
    → HasTokens a ts → HasTokens b us → map (spelled_in a) ts ≡ map (spelled_in b) us

-- a string that is written in UTF-8 stands for UTF-8
abbrev pub StringsAreUtf8 : Type 0
StringsAreUtf8 = (literal value : List ℕ) → IsUtf8 literal → IsQuoted quoteds.Str literal value → IsUtf8 value

-- the bytes of each token of a text are UTF-8
abbrev pub LexemesAreUtf8 : Type 0
LexemesAreUtf8 = (text : List ℕ) (ts : List Token) → HasTokens text ts → All (λ t. IsUtf8 (lexeme_of text t)) ts
