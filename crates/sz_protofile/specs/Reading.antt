-- What stands at the front of a list of tokens, and what is left.
use Rattle.std.specs.Prelude.{ℕ, ◌+◌, ◌*◌, ◌^◌, nat_lt, min, List, [], ◌∷◌, Option, Some, None}
use Rattle.std.specs.Prelude.{Bool, true, false, ◌==◌, ◌&&◌, if◌then◌else◌}
use Rattle.std.specs.Char.{digit_value}
use Rattle.std.specs.Str.{bytes_eq}
use Rattle.sz_lex.specs.Classes.{is_letter}
use Rattle.sz_lex.specs.Tokens.{all_word}
use Rattle.sz_protofile_lex.specs.declared.token.Token.{Token}
use Rattle.sz_protofile_lex.specs.declared.token.Kind.{Kind}
use Rattle.sz_protofile_lex.specs.declared.token.Kind.TheVariants as kinds
use Rattle.sz_protofile.specs.declared.keyword.Keyword.{Keyword}
use Rattle.sz_protofile.specs.Keywords.{keyword_text}

-- the bytes with which a token is written
abbrev pub Spelling : Type 0
Spelling = Token → List ℕ

-- what was read, and what is left
abbrev pub Read : Type 0 → Type 0
Read A = Option (A × List Token)

-- what is read next, unless nothing was read
unfoldable pub bind : {A B : Type 0} → Option A → (A → Option B) → Option B
bind (Some x) f = f x
bind None f = None

infixl 10 ◌>>=◌
-- the same between its arguments
abbrev pub ◌>>=◌ : {A B : Type 0} → Option A → (A → Option B) → Option B
o >>= f = bind o f

-- the first that was read
unfoldable pub first : {A : Type 0} → Option A → Option A → Option A
first (Some x) y = Some x
first None y = y

infixr 9 ◌<|>◌
-- the same between its arguments
abbrev pub ◌<|>◌ : {A : Type 0} → Option A → Option A → Option A
x <|> y = first x y

-- nothing, unless the test holds
unfoldable pub guard : {A : Type 0} → Bool → Option A → Option A
guard true o = o
guard false o = None

-- ---- single tokens

-- what follows the token, if it is this sign
abbrev pub sign_here : ℕ → Kind → List Token → Option (List Token)
sign_here b (kinds.Sign s) ts = if s == b then Some ts else None
sign_here b _ ts = None

-- what follows the sign
unfoldable pub after_sign : ℕ → List Token → Option (List Token)
after_sign b [] = None
after_sign b (t ∷ ts) = sign_here b t.kind ts

abbrev pub quoted_here : Kind → List Token → Option (List Token)
quoted_here kinds.Quoted ts = Some ts
quoted_here _ ts = None

-- what follows a string
unfoldable pub after_quoted : List Token → Option (List Token)
after_quoted [] = None
after_quoted (t ∷ ts) = quoted_here t.kind ts

abbrev pub word_here : Token → Kind → List Token → Read Token
word_here t kinds.Word ts = Some (t, ts)
word_here t _ ts = None

-- a word
unfoldable pub word_at : List Token → Read Token
word_at [] = None
word_at (t ∷ ts) = word_here t t.kind ts

-- what follows this word
unfoldable pub after_word : Spelling → Keyword → List Token → Option (List Token)
after_word text w ts = word_at ts >>= λ x. guard (bytes_eq (keyword_text w) (text x.0)) (Some x.1)

-- a letter or _, and then letters, digits and _
abbrev pub is_name : List ℕ → Bool
is_name [] = false
is_name (b ∷ bs) = is_letter b && all_word bs

-- a name
unfoldable pub name_at : Spelling → List Token → Read Token
name_at text ts = word_at ts >>= λ x. guard (is_name (text x.0)) (Some x)

-- ---- numbers

-- numbers from here on are too large for a field, and are all taken for this one
abbrev pub too_large : ℕ
too_large = 2 ^ 29

-- the number with one more digit to a base after it, if the byte is such a digit
abbrev pub push_digit : ℕ → ℕ → ℕ → Option ℕ
push_digit base n b = if nat_lt (digit_value b) base then Some (min (n * base + digit_value b) too_large) else None

-- the number with these digits to a base after it, if they are such digits
unfoldable pub digits_from : ℕ → ℕ → List ℕ → Option ℕ
digits_from base n [] = Some n
digits_from base n (b ∷ bs) = push_digit base n b >>= λ m. digits_from base m bs

-- the number of one or more digits to a base
abbrev pub digits_of : ℕ → List ℕ → Option ℕ
digits_of base [] = None
digits_of base (b ∷ bs) = digits_from base 0 (b ∷ bs)

-- hexadecimal digits after 0x, or else octal digits with the 0 that stands before these
abbrev pub after_zero : List ℕ → Option ℕ
after_zero [] = Some 0
after_zero (b ∷ bs) = if b == 120 then digits_of 16 bs else digits_of 8 (b ∷ bs)

-- the number that a word spells
abbrev pub number_of : List ℕ → Option ℕ
number_of [] = None
number_of (b ∷ bs) = if b == 48 then after_zero bs else digits_of 10 (b ∷ bs)

-- a number
unfoldable pub number_at : Spelling → List Token → Read ℕ
number_at text ts = word_at ts >>= λ x. number_of (text x.0) >>= λ n. Some (n, x.1)
