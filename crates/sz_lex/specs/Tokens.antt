-- Which tokens a text has, or why it has none.
use Rattle.std.specs.Prelude.{◌≡◌, ◌≢◌, ℕ, ◌+◌, List, [], ◌∷◌, ◌++◌, length, take, Option, Some, None, Bool, true, false, ◌==◌, ◌||◌, ◌&&◌}
use Rattle.std.specs.Prelude.{if◌then◌else◌, IsUtf8}
use Rattle.std.specs.Str.{IsValidUpTo}
use Rattle.sz_types.specs.declared.place.Place.{Place}
use Rattle.sz_lex.specs.declared.token.Token.{Token}
use Rattle.sz_lex.specs.declared.token.Kind.{Kind}
use Rattle.sz_lex.specs.declared.token.Kind.TheVariants as kinds
use Rattle.sz_lex.specs.declared.error.LexError.{LexError}
use Rattle.sz_lex.specs.declared.error.LexError.TheVariants as errors
use Rattle.sz_lex.specs.declared.escape.Quoted.TheVariants as quoteds
use Rattle.sz_lex.specs.declared.word.Word.{Word}
use Rattle.sz_lex.specs.Classes.{is_blank, is_letter, is_digit, is_word}
use Rattle.sz_lex.specs.Words.{word_text}
use Rattle.sz_lex.specs.Signs.{sign_text}
use Rattle.sz_lex.specs.Numbers.{number_of}
use Rattle.sz_lex.specs.Literals.{IsQuoted, IsCharacter}

-- each byte is a letter, a digit or _
abbrev pub all_word : List ℕ → Bool
all_word [] = true
all_word (b ∷ bs) = is_word b && all_word bs

-- a letter or _, then letters, digits and _
abbrev pub IsName : List ℕ → Type 0
IsName [] = ⊥
IsName (b ∷ bs) = (is_letter b ≡ true) × (all_word bs ≡ true)

-- a digit, then letters, digits and _
abbrev pub IsRun : List ℕ → Type 0
IsRun [] = ⊥
IsRun (b ∷ bs) = (is_digit b ≡ true) × (all_word bs ≡ true)

-- the bytes spell a token of this kind
abbrev pub IsLexeme : Kind → List ℕ → Type 0
IsLexeme kinds.Name l = IsName l × ((w : Word) → l ≢ word_text w)
IsLexeme (kinds.Word w) l = l ≡ word_text w
IsLexeme (kinds.Number n) l = IsRun l × (number_of l ≡ Some n)
IsLexeme (kinds.Character c) l = IsCharacter l c
IsLexeme kinds.Str l = (value : List ℕ) × IsQuoted quoteds.Str l value
IsLexeme kinds.Bytes l = (value : List ℕ) × IsQuoted quoteds.Bytes l value
IsLexeme (kinds.Sign s) l = l ≡ sign_text s

-- the bytes have the form of a token, whether or not a run spells a number; so has B", since B is no name before "
pub data HasForm (l : List ℕ) : Type 0 where
  name : IsName l → HasForm l
  run : IsRun l → HasForm l
  token : (k : Kind) → IsLexeme k l → HasForm l
  opens : l ≡ 66 ∷ 34 ∷ [] → HasForm l

-- no longer front of what is here has the form of a token
abbrev pub IsLongest : List ℕ → List ℕ → Type 0
IsLongest lexeme rest = (extra others : List ℕ) → rest ≡ extra ++ others → HasForm (lexeme ++ extra) → extra ≡ []

-- whether a comment is open after bytes that are blanks and comments, where one is open before them or not;
-- a comment begins with # and ends before a newline
abbrev pub gap_from : Bool → List ℕ → Option Bool
gap_from comment [] = Some comment
gap_from false (b ∷ bs) = if is_blank b then gap_from false bs else (if b == 35 then gap_from true bs else None)
gap_from true (b ∷ bs) = if b == 10 then gap_from false bs else gap_from true bs

-- the place after a byte
abbrev pub after : ℕ → Place → Place
after b p =
    if b == 10 then record { line = p.line + 1; column = 1 } else record { line = p.line; column = p.column + 1 }

-- the place after bytes
abbrev pub later : List ℕ → Place → Place
later [] p = p
later (b ∷ bs) p = later bs (after b p)

-- the place of a text's first byte
abbrev pub first_place : Place
first_place = record { line = 1; column = 1 }

-- after blanks and comments the text goes on with this token, and with rest after it
pub record Next (t : Token) (comment : Bool) (at : ℕ) (p : Place) (text : List ℕ) : Type 0 where
  pub gap : List ℕ
  pub lexeme : List ℕ
  pub rest : List ℕ
  pub parts : text ≡ gap ++ (lexeme ++ rest)
  pub closed : gap_from comment gap ≡ Some false
  pub start : t.start ≡ at + length gap
  pub place : t.place ≡ later gap p
  pub len : t.len ≡ length lexeme
  pub spelled : IsLexeme t.kind lexeme
  pub longest : IsLongest lexeme rest

-- what may stand after tokens: whether a comment is open, an index, its place, and the bytes from there on
abbrev pub Tail : Type 1
Tail = Bool → ℕ → Place → List ℕ → Type 0

-- from this index and place on the text has these tokens one after another, and after them such a tail
unfoldable pub TokensThen : Tail → List Token → Bool → ℕ → Place → List ℕ → Type 0
TokensThen P [] comment at p text = P comment at p text
TokensThen P (t ∷ ts) comment at p text = (n : Next t comment at p text)
    × TokensThen P ts false (at + length n.gap + length n.lexeme) (later n.lexeme (later n.gap p)) n.rest

-- nothing but blanks and comments
abbrev pub Nothing : Tail
Nothing comment at p text = (end : Bool) × (gap_from comment text ≡ Some end)

-- after blanks and comments, at the place q, a byte with which no token begins
pub record NoToken (q : Place) (comment : Bool) (p : Place) (text : List ℕ) : Type 0 where
  pub gap : List ℕ
  pub byte : ℕ
  pub rest : List ℕ
  pub parts : text ≡ gap ++ (byte ∷ rest)
  pub closed : gap_from comment gap ≡ Some false
  pub place : q ≡ later gap p
  pub blank : is_blank byte ≡ false
  pub hash : (byte == 35) ≡ false
  pub none : (k : Kind) (l : List ℕ) → IsLexeme k (byte ∷ l) → ⊥

-- what is left has no token, by a byte at the place q
abbrev pub BadCharAt : Place → Tail
BadCharAt q comment at p text = NoToken q comment p text

-- a literal begins here: a digit, a quote, or B"
abbrev pub begins_literal : List ℕ → Bool
begins_literal [] = false
begins_literal (b ∷ []) = is_digit b || b == 34 || b == 39
begins_literal (b ∷ c ∷ bs) = is_digit b || b == 34 || b == 39 || (b == 66 && c == 34)

-- after blanks and comments, at the place q, the beginning of a literal where no token is
pub record NoLiteral (q : Place) (comment : Bool) (p : Place) (text : List ℕ) : Type 0 where
  pub gap : List ℕ
  pub rest : List ℕ
  pub parts : text ≡ gap ++ rest
  pub closed : gap_from comment gap ≡ Some false
  pub place : q ≡ later gap p
  pub begins : begins_literal rest ≡ true
  pub none : (k : Kind) (l others : List ℕ) → rest ≡ l ++ others → IsLexeme k l → IsLongest l others → ⊥

-- what is left has no token, by the beginning of a literal at the place q
abbrev pub BadLiteralAt : Place → Tail
BadLiteralAt q comment at p text = NoLiteral q comment p text

-- the text is UTF-8 and has these tokens
pub record HasTokens (text : List ℕ) (ts : List Token) : Type 0 where
  pub utf8 : IsUtf8 text
  pub tokens : TokensThen Nothing ts false 0 first_place text

-- the text is UTF-8, and after some tokens the place q has a byte that begins none
pub record HasBadChar (text : List ℕ) (q : Place) : Type 0 where
  pub utf8 : IsUtf8 text
  pub before : List Token
  pub tokens : TokensThen (BadCharAt q) before false 0 first_place text

-- the text is UTF-8, and after some tokens the place q has a literal that is not of its form
pub record HasBadLiteral (text : List ℕ) (q : Place) : Type 0 where
  pub utf8 : IsUtf8 text
  pub before : List Token
  pub tokens : TokensThen (BadLiteralAt q) before false 0 first_place text

-- the longest front of the text that is UTF-8 ends at the place q, and more follows
pub record HasNotUtf8 (text : List ℕ) (q : Place) : Type 0 where
  pub len : ℕ
  pub front : IsValidUpTo text len
  pub place : q ≡ later (take len text) first_place

-- the text is refused for this reason; want of memory is no reason of the text's
abbrev pub IsRefused : List ℕ → LexError → Type 0
IsRefused text (errors.BadChar q) = HasBadChar text q
IsRefused text (errors.BadLiteral q) = HasBadLiteral text q
IsRefused text (errors.NotUtf8 q) = HasNotUtf8 text q
IsRefused text errors.NoMemory = ⊥
