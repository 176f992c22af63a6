-- Strings, bytes and characters between quotes, and what they stand for.
use Rattle.std.specs.Prelude.{◌≡◌, ℕ, List, [], ◌∷◌, ◌++◌, Option, Some, None, Bool, false, nat_lt, nat_le, ◌==◌, ◌&&◌, ◌||◌, not}
use Rattle.std.specs.Prelude.{if◌then◌else◌, encode_utf8}
use Rattle.std.specs.Char.{IsScalar}
use Rattle.std.specs.Option.{option_map, option_and_then}
use Rattle.sz_lex.specs.declared.escape.Escape.{Escape}
use Rattle.sz_lex.specs.declared.escape.Escape.TheVariants as escapes
use Rattle.sz_lex.specs.declared.escape.Quoted.{Quoted}
use Rattle.sz_lex.specs.declared.escape.Quoted.TheVariants as quoteds
use Rattle.sz_lex.specs.Numbers.{digits_from}

-- the character of an escape of one letter: newline, tab, carriage return, backslash and the two quotes
abbrev pub letter_escape : ℕ → Option Escape
letter_escape b =
    if b == 110 then Some (escapes.Char 10)
    else (if b == 116 then Some (escapes.Char 9)
    else (if b == 114 then Some (escapes.Char 13)
    else (if b == 92 || b == 34 || b == 39 then Some (escapes.Char b)
    else None)))

-- the character with this code, unless it is one of D800 to DFFF
abbrev pub character_escape : ℕ → Option Escape
character_escape code = if nat_le 0xD800 code && nat_le code 0xDFFF then None else Some (escapes.Char code)

-- what an escape stands for, written without its backslash: a letter; x and two hexadecimal digits, a byte; u and
-- four, a character
abbrev pub escape_of : List ℕ → Option Escape
escape_of (k ∷ []) = letter_escape k
escape_of (k ∷ a ∷ b ∷ []) = if k == 120 then option_map escapes.Byte (digits_from 16 0 (a ∷ b ∷ [])) else None
escape_of (k ∷ a ∷ b ∷ c ∷ d ∷ []) =
    if k == 117 then option_and_then character_escape (digits_from 16 0 (a ∷ b ∷ c ∷ d ∷ [])) else None
escape_of _ = None

-- the code that an escape gives in a character literal, where \x is at most 7f
abbrev pub escape_code : Escape → Option ℕ
escape_code (escapes.Byte b) = if nat_lt b 128 then Some b else None
escape_code (escapes.Char c) = Some c

-- the bytes that an escape stands for: a byte, at most 7f in a string; or a character's UTF-8
abbrev pub escape_bytes : Quoted → Escape → Option (List ℕ)
escape_bytes quoteds.Str (escapes.Byte b) = if nat_lt b 128 then Some (b ∷ []) else None
escape_bytes quoteds.Bytes (escapes.Byte b) = Some (b ∷ [])
escape_bytes q (escapes.Char c) = Some (encode_utf8 c)

-- a part of a string or bytes literal: a byte of a character that stands for itself, or an escape, without its
-- backslash
pub data Part : Type 0 where
  plain : ℕ → Part
  escape : List ℕ → Part

-- how parts are written
abbrev pub parts_text : List Part → List ℕ
parts_text [] = []
parts_text (plain b ∷ ps) = b ∷ parts_text ps
parts_text (escape text ∷ ps) = 92 ∷ (text ++ parts_text ps)

-- the byte is no double quote, no backslash and no newline
abbrev pub is_plain : ℕ → Bool
is_plain b = not (b == 34 || b == 92 || b == 10)

-- the bytes that a part stands for
abbrev pub part_value : Quoted → Part → Option (List ℕ)
part_value q (plain b) = if is_plain b then Some (b ∷ []) else None
part_value q (escape text) = option_and_then (escape_bytes q) (escape_of text)

-- the bytes that parts stand for, one after another
abbrev pub parts_value : Quoted → List Part → Option (List ℕ)
parts_value q [] = Some []
parts_value q (p ∷ ps) = option_and_then (λ v. option_map (λ vs. v ++ vs) (parts_value q ps)) (part_value q p)

-- what opens a string or a bytes literal: " or B"
abbrev pub opening : Quoted → List ℕ
opening quoteds.Str = 34 ∷ []
opening quoteds.Bytes = 66 ∷ 34 ∷ []

-- the literal is its opening, parts that stand for these bytes, and a double quote
pub record IsQuoted (q : Quoted) (literal value : List ℕ) : Type 0 where
  pub parts : List Part
  pub spelled : literal ≡ opening q ++ (parts_text parts ++ (34 ∷ []))
  pub stands : parts_value q parts ≡ Some value

-- the literal is ', one character other than ', \ and a newline, or one escape, and '
pub data IsCharacter (literal : List ℕ) (c : ℕ) : Type 0 where
  plain : IsScalar c → (c == 39 || c == 92 || c == 10) ≡ false → literal ≡ 39 ∷ (encode_utf8 c ++ (39 ∷ []))
      → IsCharacter literal c
  escaped : (text : List ℕ) → option_and_then escape_code (escape_of text) ≡ Some c
      → literal ≡ 39 ∷ (92 ∷ (text ++ (39 ∷ []))) → IsCharacter literal c
