-- How a text is read from left to right: each function of the crate gives what one of these gives.
use Rattle.std.specs.Prelude.{◌≡◌, ℕ, ℤ, zero, suc, ◌+◌, ◌-◌, ◌*◌, ◌^◌, nat_lt, List, [], ◌∷◌, ◌++◌, length, take, drop, Option, Some, None}
use Rattle.std.specs.Prelude.{Result, Ok, Err, Bool, ◌==◌, ◌||◌, not, if◌then◌else◌, encode_utf8}
use Rattle.std.specs.Str.{is_utf8, chars}
use Rattle.std.specs.List.{prefix_len}
use Rattle.std.specs.Option.{option_and_then}
use Rattle.sz_types.specs.declared.place.Place.{Place}
use Rattle.sz_lex.specs.declared.token.Token.{Token}
use Rattle.sz_lex.specs.declared.token.Kind.{Kind}
use Rattle.sz_lex.specs.declared.token.Kind.TheVariants as kinds
use Rattle.sz_lex.specs.declared.error.LexError.{LexError}
use Rattle.sz_lex.specs.declared.error.LexError.TheVariants as errors
use Rattle.sz_lex.specs.declared.escape.Escape.{Escape}
use Rattle.sz_lex.specs.declared.escape.Escape.TheVariants as escapes
use Rattle.sz_lex.specs.declared.escape.Quoted.{Quoted}
use Rattle.sz_lex.specs.declared.escape.Quoted.TheVariants as quoteds
use Rattle.sz_lex.specs.declared.word.Word.{Word}
use Rattle.sz_lex.specs.declared.sign.Sign.{Sign}
use Rattle.sz_lex.specs.declared.item.Item.{Item}
use Rattle.sz_lex.specs.declared.item.Item.TheVariants.{Gap, Lexeme, BadChar, BadLiteral}
use Rattle.sz_lex.specs.Classes.{is_blank, is_letter, is_digit, is_word}
use Rattle.std.specs.Char.{digit_value}
use Rattle.sz_lex.specs.Numbers.{number_of, below}
use Rattle.sz_lex.specs.Literals.{escape_of, escape_code, escape_bytes, opening}
use Rattle.sz_lex.specs.Tokens.{after, begins_literal}
use Rattle.sz_lex.specs.Lookup.{word_of, sign_at}

-- ---- numbers

-- the number with one more digit after it, if the byte is a digit to the base and 64 bits hold the number
abbrev pub push_digit : ℕ → ℕ → ℕ → Option ℕ
push_digit base n b = if nat_lt (digit_value b) base then below (2 ^ 64) (Some (n * base + digit_value b)) else None

-- ---- literals

-- how many bytes an escape takes after its backslash, if its first byte is this
abbrev pub escape_size : ℕ → ℕ
escape_size b = if b == 120 then 3 else (if b == 117 then 5 else 1)

-- the escape at the front, after its backslash
abbrev pub escape_at : List ℕ → Option Escape
escape_at [] = None
escape_at (b ∷ bs) = escape_of (take (escape_size b) (b ∷ bs))

-- the bytes that an escape stands for, where it may stand
abbrev pub escape_value : Escape → List ℕ
escape_value (escapes.Byte b) = b ∷ []
escape_value (escapes.Char c) = encode_utf8 c

-- the first byte, or 0 at the end
abbrev pub first : List ℕ → ℕ
first [] = 0
first (b ∷ bs) = b

-- a literal's body: the number of its bytes with the closing quote, and the bytes that it stands for
pub record Body : Type 0 where
  pub len : ℕ
  pub value : List ℕ

-- what a body stands for, if it takes so many bytes
abbrev pub whole_value : ℕ → Option Body → Option (List ℕ)
whole_value n None = None
whole_value n (Some b) = if b.len == n then Some b.value else None

-- a body with one more byte, which adds these to its value
abbrev pub longer : List ℕ → Option Body → Option Body
longer v None = None
longer v (Some b) = Some (record { len = suc b.len; value = v ++ b.value })

-- the body of a string or bytes literal at the front, where so many bytes belong to an escape that came before
unfoldable pub body_at : Quoted → ℕ → List ℕ → Option Body
body_at q k [] = None
body_at q (suc k) (b ∷ bs) = longer [] (body_at q k bs)
body_at q zero (b ∷ bs) =
    if b == 34 then Some (record { len = 1; value = [] })
    else (if b == 92 then option_and_then (λ v. longer v (body_at q (escape_size (first bs)) bs))
    (option_and_then (escape_bytes q) (escape_at bs)) else (if b == 10 then None
    else longer (b ∷ []) (body_at q zero bs)))

-- the character, if it needs no escape
abbrev pub unescaped : ℕ → Option ℕ
unescaped c = if c == 39 || c == 92 || c == 10 then None else Some c

-- the only one of these characters, if it needs no escape
abbrev pub only_plain : List ℕ → Option ℕ
only_plain (c ∷ []) = unescaped c
only_plain _ = None

-- the only character of these bytes, if it needs no escape
abbrev pub plain_character : List ℕ → Option ℕ
plain_character bytes = if is_utf8 bytes then only_plain (chars bytes) else None

abbrev pub not_quote : ℕ → Bool
not_quote b = not (b == 39)

-- a character and the number of its bytes, if the closing quote stands after them
abbrev pub quoted_character : Option ℕ → ℕ → List ℕ → Option (ℕ × ℕ)
quoted_character None n rest = None
quoted_character (Some c) n rest = if first rest == 39 then Some (c, n + 1) else None

-- an escaped character after its backslash, and the number of bytes from there on with the backslash and the closing
-- quote
abbrev pub escaped_at : List ℕ → Option (ℕ × ℕ)
escaped_at bs = quoted_character (option_and_then escape_code (escape_at bs)) (1 + escape_size (first bs))
    (drop (escape_size (first bs)) bs)

-- a character that needs no escape, and the number of bytes with the closing quote
abbrev pub unescaped_at : List ℕ → Option (ℕ × ℕ)
unescaped_at bs = let n = prefix_len not_quote bs in quoted_character (plain_character (take n bs)) n (drop n bs)

-- the character after an opening quote, and the number of bytes with the closing one
abbrev pub character_at : List ℕ → Option (ℕ × ℕ)
character_at [] = None
character_at (b ∷ bs) = if b == 92 then escaped_at bs else unescaped_at (b ∷ bs)

-- ---- the item at the front

abbrev pub not_newline : ℕ → Bool
not_newline b = not (b == 10)

abbrev pub quoted_kind : Quoted → Kind
quoted_kind quoteds.Str = kinds.Str
quoted_kind quoteds.Bytes = kinds.Bytes

-- a reserved word, or else a name
abbrev pub kind_of : Option Word → Kind
kind_of None = kinds.Name
kind_of (Some w) = kinds.Word w

abbrev pub word_kind : List ℕ → Kind
word_kind word = kind_of (word_of word)

abbrev pub number_item : Option ℤ → ℕ → Item
number_item None n = BadLiteral
number_item (Some v) n = Lexeme (kinds.Number v) n

abbrev pub character_item : Option (ℕ × ℕ) → Item
character_item None = BadLiteral
character_item (Some c) = Lexeme (kinds.Character c.0) (c.1 + 1)

abbrev pub quoted_item : Quoted → Option Body → Item
quoted_item q None = BadLiteral
quoted_item q (Some b) = Lexeme (quoted_kind q) (length (opening q) + b.len)

abbrev pub sign_item : Option (Sign × ℕ) → Item
sign_item None = BadChar
sign_item (Some s) = Lexeme (kinds.Sign s.0) s.1

-- the literal that begins with this byte
abbrev pub literal_item : ℕ → List ℕ → Item
literal_item b bs =
    if is_digit b
    then number_item (number_of (take (prefix_len is_word (b ∷ bs)) (b ∷ bs))) (prefix_len is_word (b ∷ bs))
    else (if b == 39 then character_item (character_at bs)
    else (if b == 34 then quoted_item quoteds.Str (body_at quoteds.Str 0 bs)
    else quoted_item quoteds.Bytes (body_at quoteds.Bytes 0 (drop 1 bs))))

-- the literal that begins at the front
abbrev pub literal_of : List ℕ → Item
literal_of [] = BadLiteral
literal_of (b ∷ bs) = literal_item b bs

-- the sign at the front
abbrev pub sign_of_text : List ℕ → Item
sign_of_text [] = BadChar
sign_of_text (b ∷ bs) = sign_item (sign_at b (first bs))

-- what stands at the front of bytes that begin so
abbrev pub item_of : ℕ → List ℕ → Item
item_of b bs =
    if is_blank b then Gap 1
    else (if b == 35 then Gap (prefix_len not_newline bs + 1)
    else (if begins_literal (b ∷ bs) then literal_item b bs
    else (if is_letter b
    then Lexeme (word_kind (take (prefix_len is_word (b ∷ bs)) (b ∷ bs))) (prefix_len is_word (b ∷ bs))
    else sign_item (sign_at b (first bs)))))

abbrev pub item : List ℕ → Item
item [] = BadChar
item (b ∷ bs) = item_of b bs

-- ---- all tokens

unfoldable pub bind : {A B : Type 0} → Result A LexError → (A → Result B LexError) → Result B LexError
bind (Ok x) f = f x
bind (Err e) f = Err e

-- goes on after the item at this index, with the number of its bytes that are still to pass
abbrev pub act : ℕ → Place → Item → (ℕ → Result (List Token) LexError) → Result (List Token) LexError
act at p (Gap n) go = go (n - 1)
act at p (Lexeme k n) go = bind (go (n - 1)) (λ ts. Ok (record { kind = k; place = p; start = at; len = n } ∷ ts))
act at p BadChar go = Err (errors.BadChar p)
act at p BadLiteral go = Err (errors.BadLiteral p)

-- the tokens from this index on, where so many bytes belong to what came before
unfoldable pub lexed : ℕ → ℕ → Place → List ℕ → Result (List Token) LexError
lexed k at p [] = Ok []
lexed (suc k) at p (b ∷ bs) = lexed k (at + 1) (after b p) bs
lexed zero at p (b ∷ bs) = act at p (item_of b bs) (λ k. lexed k (at + 1) (after b p) bs)

-- what a function returned, seen by view, is what this gives, unless memory ran out
abbrev pub Gives : {X Y : Type 0} → (X → Y) → Result X LexError → Result Y LexError → Type 0
Gives view (Ok x) read = read ≡ Ok (view x)
Gives view (Err errors.NoMemory) read = Unit {0}
Gives view (Err (errors.BadChar p)) read = read ≡ Err (errors.BadChar p)
Gives view (Err (errors.BadLiteral p)) read = read ≡ Err (errors.BadLiteral p)
Gives view (Err (errors.NotUtf8 p)) read = ⊥

-- tokens that were found, and those that are still to be found
unfoldable pub with_front : List Token → Result (List Token) LexError → Result (List Token) LexError
with_front front read = bind read (λ ts. Ok (front ++ ts))
