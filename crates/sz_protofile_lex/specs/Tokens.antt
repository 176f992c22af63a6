-- Which tokens a file has, or where it is refused.
use Rattle.std.specs.Prelude.{ℕ, zero, suc, ◌+◌, ◌-◌, List, [], ◌∷◌, Option, Some, None, Result, Ok, Err}
use Rattle.std.specs.Prelude.{Bool, false, ◌==◌, ◌||◌, ◌&&◌, not, nat_le, if◌then◌else◌}
use Rattle.std.specs.List.{prefix_len}
use Rattle.std.specs.Option.{option_map}
use Rattle.sz_types.specs.declared.place.Place.{Place}
use Rattle.sz_lex.specs.Classes.{is_word}
use Rattle.sz_lex.specs.Tokens.{after, first_place}
use Rattle.sz_lex.specs.Reading.{not_newline}
use Rattle.sz_protofile_lex.specs.declared.token.Token.{Token}
use Rattle.sz_protofile_lex.specs.declared.token.Kind.TheVariants as kinds
use Rattle.sz_protofile_lex.specs.declared.item.Item.{Item}
use Rattle.sz_protofile_lex.specs.declared.item.Item.TheVariants.{Gap, Lexeme, Bad}

-- a space, a tab, or another of the bytes 9 to 13
abbrev pub is_blank : ℕ → Bool
is_blank b = b == 32 || (nat_le 9 b && nat_le b 13)

-- a letter, a digit, _ or .
abbrev pub in_word : ℕ → Bool
in_word b = is_word b || b == 46

-- a byte of ASCII that is no control byte and no space
abbrev pub is_printable : ℕ → Bool
is_printable b = nat_le 33 b && nat_le b 126

-- ---- comments and strings

-- how many bytes there are up to the first / after a *, and with it, where a * stands before them or not
unfoldable pub comment_at : Bool → List ℕ → Option ℕ
comment_at star [] = None
comment_at star (b ∷ bs) = if star && b == 47 then Some 1 else option_map suc (comment_at (b == 42) bs)

-- how many bytes there are up to the first of these quotes, and with it, where a \ takes the next byte with it and no
-- newline stands; a \ that takes the first byte stands before them or not
unfoldable pub quoted_at : ℕ → Bool → List ℕ → Option ℕ
quoted_at quote escaped [] = None
quoted_at quote escaped (b ∷ bs) =
    if b == 10 then None
    else (if not escaped && b == quote then Some 1 else option_map suc (quoted_at quote (not escaped && b == 92) bs))

-- ---- the item at the front

-- a comment after its /*
abbrev pub block_item : Option ℕ → Item
block_item None = Bad
block_item (Some n) = Gap (n + 2)

-- a string after its opening quote
abbrev pub quoted_item : Option ℕ → Item
quoted_item None = Bad
quoted_item (Some n) = Lexeme kinds.Quoted (n + 1)

-- what begins with a slash: a comment to the end of the line, a comment to its */, or the slash by itself
abbrev pub slash_item : List ℕ → Item
slash_item [] = Lexeme (kinds.Sign 47) 1
slash_item (b ∷ bs) =
    if b == 47 then Gap (prefix_len not_newline bs + 2)
    else (if b == 42 then block_item (comment_at false bs) else Lexeme (kinds.Sign 47) 1)

-- what stands at the front of bytes that begin so, and how many of them it takes
abbrev pub item_of : ℕ → List ℕ → Item
item_of b bs =
    if is_blank b then Gap 1
    else (if b == 47 then slash_item bs
    else (if in_word b then Lexeme kinds.Word (prefix_len in_word bs + 1)
    else (if b == 34 || b == 39 then quoted_item (quoted_at b false bs)
    else (if is_printable b then Lexeme (kinds.Sign b) 1
    else Bad))))

abbrev pub item : List ℕ → Item
item [] = Bad
item (b ∷ bs) = item_of b bs

-- how many bytes an item takes, and 1 for what is refused
abbrev pub size_of : Item → ℕ
size_of (Gap n) = n
size_of (Lexeme k n) = n
size_of Bad = 1

-- ---- all tokens

-- a token, and the tokens after it
unfoldable pub with_token : Token → Result (List Token) Place → Result (List Token) Place
with_token t (Ok ts) = Ok (t ∷ ts)
with_token t (Err p) = Err p

-- what this item gives at this index and place, where go gives what follows the byte after so many further ones
abbrev pub act : ℕ → Place → Item → (ℕ → Result (List Token) Place) → Result (List Token) Place
act at p (Gap n) go = go (n - 1)
act at p (Lexeme k n) go = with_token (record { kind = k; place = p; start = at; len = n }) (go (n - 1))
act at p Bad go = Err p

-- the tokens of the bytes from this index and place on, of which so many belong to the item before them; or the place
-- of the first byte that begins no item
unfoldable pub tokens_from : ℕ → ℕ → Place → List ℕ → Result (List Token) Place
tokens_from k at p [] = Ok []
tokens_from (suc k) at p (b ∷ bs) = tokens_from k (at + 1) (after b p) bs
tokens_from zero at p (b ∷ bs) = act at p (item_of b bs) (λ k. tokens_from k (at + 1) (after b p) bs)

-- the tokens of a text, from left to right
abbrev pub tokens_of : List ℕ → Result (List Token) Place
tokens_of text = tokens_from 0 0 first_place text
