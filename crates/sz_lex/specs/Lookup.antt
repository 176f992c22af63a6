-- Where words and signs are looked up.
use Rattle.std.specs.Prelude.{ℕ, List, [], ◌∷◌, Option, Some, None, ◌==◌, ◌&&◌, find, if◌then◌else◌}
use Rattle.std.specs.Str.{bytes_eq}
use Rattle.sz_lex.specs.declared.word.Word.{Word}
use Rattle.sz_lex.specs.declared.word.Word.TheVariants as words
use Rattle.sz_lex.specs.declared.sign.Sign.{Sign}
use Rattle.sz_lex.specs.declared.sign.Sign.TheVariants as signs
use Rattle.sz_lex.specs.Words.{word_text}

-- each reserved word once
abbrev pub all_words : List Word
all_words =
    words.All ∷ words.Array ∷ words.Bool ∷ words.Break ∷ words.Bytes ∷ words.Continue ∷ words.Def ∷ words.Do ∷
    words.Each ∷ words.Else ∷ words.Emit ∷ words.False ∷ words.For ∷ words.Function ∷ words.If ∷ words.Int ∷
    words.Map ∷ words.Of ∷ words.Proto ∷ words.Return ∷ words.Some ∷ words.Static ∷ words.String ∷ words.Table ∷
    words.Time ∷ words.True ∷ words.Type ∷ words.Weight ∷ words.When ∷ words.While ∷ []

-- the reserved word that is spelled so
abbrev pub word_of : List ℕ → Option Word
word_of text = find (λ w. bytes_eq (word_text w) text) all_words

-- the sign that two bytes spell
abbrev pub pair_sign : ℕ → ℕ → Option Sign
pair_sign a b =
    if a == 60 && b == 45 then Some signs.Arrow
    else (if a == 60 && b == 61 then Some signs.LessEqual
    else (if a == 60 && b == 60 then Some signs.ShiftLeft
    else (if a == 62 && b == 61 then Some signs.GreaterEqual
    else (if a == 62 && b == 62 then Some signs.ShiftRight
    else (if a == 61 && b == 61 then Some signs.EqualEqual
    else (if a == 33 && b == 61 then Some signs.NotEqual
    else (if a == 38 && b == 38 then Some signs.AndAnd
    else (if a == 124 && b == 124 then Some signs.OrOr
    else (if a == 43 && b == 43 then Some signs.Increment
    else (if a == 45 && b == 45 then Some signs.Decrement
    else (if a == 58 && b == 61 then Some signs.Define
    else None)))))))))))

-- the sign that a byte spells
abbrev pub single_sign : ℕ → Option Sign
single_sign a =
    if a == 60 then Some signs.Less
    else (if a == 62 then Some signs.Greater
    else (if a == 61 then Some signs.Assign
    else (if a == 33 then Some signs.Not
    else (if a == 38 then Some signs.And
    else (if a == 124 then Some signs.Or
    else (if a == 43 then Some signs.Plus
    else (if a == 45 then Some signs.Minus
    else (if a == 58 then Some signs.Colon
    else (if a == 42 then Some signs.Star
    else (if a == 47 then Some signs.Slash
    else (if a == 37 then Some signs.Percent
    else (if a == 94 then Some signs.Caret
    else (if a == 126 then Some signs.Tilde
    else (if a == 40 then Some signs.OpenParen
    else (if a == 41 then Some signs.CloseParen
    else (if a == 91 then Some signs.OpenBracket
    else (if a == 93 then Some signs.CloseBracket
    else (if a == 123 then Some signs.OpenBrace
    else (if a == 125 then Some signs.CloseBrace
    else (if a == 44 then Some signs.Comma
    else (if a == 59 then Some signs.Semicolon
    else (if a == 46 then Some signs.Dot
    else (if a == 64 then Some signs.At
    else None)))))))))))))))))))))))

-- a sign of two bytes, or else one of a single byte, and its length
abbrev pub sign_or : Option Sign → Option Sign → Option (Sign × ℕ)
sign_or (Some s) t = Some (s, 2)
sign_or None (Some t) = Some (t, 1)
sign_or None None = None

-- the longest sign at the front of bytes that begin with these two, and its length
abbrev pub sign_at : ℕ → ℕ → Option (Sign × ℕ)
sign_at a b = sign_or (pair_sign a b) (single_sign a)
