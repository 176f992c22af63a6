-- Texts that are cut between characters.
use Rattle.std.proofs.Common.{◌≡◌, ℕ, ℤ, ◌+◌, ◌-◌, ◌≤◌, nat_le, Bool, true, false, if◌then◌else◌, Option, Some, None, subst, List, [], ◌∷◌, ◌++◌, length, take, drop, refl, sym, ap, ◌∙◌, arith}
use Rattle.std.specs.Prelude.{slice_get, chars, encode_utf8_all, IsUtf8}
use Rattle.std.specs.Str.{IsCharBoundary}
use Rattle.std.proofs.lemmas.List.{length-append, take_at, drop_at}
use Rattle.std.proofs.lemmas.Str.{IsCharBoundary-at_seam}
use Rattle.std.specs.Option.{option_map, option_and_then}
use Rattle.std.proofs.lemmas.List.{length-take-le}
use Rattle.std.proofs.lemmas.Str.{chars-IsAscii, encodes-IsAscii, IsUtf8-from_ascii}
use Rattle.sz_value.specs.Data.{Datum, str, bytes}
use Rattle.sz_value.specs.Texts.{is_ascii}
use Rattle.sz_value.proofs.ForCallers.{passes_ascii, ascii_part}
use Rattle.sz_value.specs.Characters.{IsRestAfter}
use Rattle.sz_builtin.specs.Places.{slice, span, part, cut}

-- what is after the front of a list, by the front's length
pub get_after : {X : Type 0} (f xs : List X) → slice_get (f ++ xs) (length f) ≡ slice_get xs 0
get_after [] xs = refl
get_after (x ∷ f) xs = get_after f xs

-- a character of the rest is a character of the text
pub character_after : (count : ℕ) (text rest : List ℕ) → IsRestAfter count text rest
    → slice_get (chars text) count ≡ slice_get (chars rest) 0
character_after count text rest h =
    sym (ap (λ n. slice_get (chars text) n) h.many) ∙ ap (λ cs. slice_get cs (length h.front)) h.characters
    ∙ get_after h.front (chars rest)

-- two cuts one after the other take the characters between them
pub characters_between : (skip count : ℕ) (text tail rest : List ℕ) → IsRestAfter skip text tail
    → IsRestAfter count tail rest
    → take (length tail - length rest) tail ≡ encode_utf8_all (take count (drop skip (chars text)))
characters_between skip count text tail rest h k =
    let bytes = ap length k.whole ∙ length-append (encode_utf8_all k.front) rest in
    let size : length tail - length rest ≡ length (encode_utf8_all k.front) = omega (arith, bytes) in
    let left = ap (take (length tail - length rest)) k.whole
    ∙ take_at (encode_utf8_all k.front) rest (length tail - length rest) (sym size) in
    let after : drop skip (chars text) ≡ chars tail =
    ap (drop skip) h.characters ∙ drop_at h.front (chars tail) skip h.many in
    let taken : take count (chars tail) ≡ k.front =
    ap (take count) k.characters ∙ take_at k.front (chars rest) count k.many in
    left ∙ sym (ap (λ cs. encode_utf8_all (take count cs)) after ∙ ap encode_utf8_all taken)

-- they aren't more than the text has
pub within_text : (skip count : ℕ) (text tail rest : List ℕ) → IsRestAfter skip text tail
    → IsRestAfter count tail rest → skip + count ≤ length (chars text)
within_text skip count text tail rest h k =
    let e = ap length h.characters ∙ length-append h.front (chars tail) in
    let d = ap length k.characters ∙ length-append k.front (chars rest) in omega (arith, e, d, h.many, k.many)

-- the text may be cut at the second of them
pub cut_between : (count : ℕ) (tail rest : List ℕ) → IsRestAfter count tail rest
    → IsCharBoundary tail (length tail - length rest)
cut_between count tail rest k =
    let bytes = ap length k.whole ∙ length-append (encode_utf8_all k.front) rest in
    let size : length (encode_utf8_all k.front) ≡ length tail - length rest = omega (arith, bytes) in
    subst (λ n. IsCharBoundary tail n) size (IsCharBoundary-at_seam tail (encode_utf8_all k.front) rest k.whole k.utf8)

-- ---- texts of ASCII

-- the characters of an ASCII text are its bytes
pub ascii_characters : (text : List ℕ) → is_ascii text ≡ true → chars text ≡ text
ascii_characters text h = chars-IsAscii text (passes_ascii text h)

-- so it has as many
pub ascii_length : (text : List ℕ) → is_ascii text ≡ true → length text ≡ length (chars text)
ascii_length text h = sym (ap length (ascii_characters text h))

-- and as many stand before a place as the place says
pub ascii_before : (text : List ℕ) (at : ℕ) → is_ascii text ≡ true → at ≤ length text
    → at ≡ length (chars (take at text))
ascii_before text at h within =
    sym (ap length (ascii_characters (take at text) (ascii_part text 0 at h)) ∙ length-take-le at text within)

-- a part of it by characters is one by bytes
pub ascii_part_is : (text : List ℕ) (p : ℕ × ℕ) → is_ascii text ≡ true
    → option_map str (cut text p) ≡ option_map (λ cs. str (encode_utf8_all cs)) (cut (chars text) p)
ascii_part_is text p h =
    at (nat_le (p.0 + p.1) (length text))
    ∙ ap (λ cs. option_map (λ part. str (encode_utf8_all part)) (cut cs p)) (sym (ascii_characters text h))
  where
    part : List ℕ
    part = take p.1 (drop p.0 text)

    same : encode_utf8_all part ≡ part
    same = encodes-IsAscii part (passes_ascii part (ascii_part text p.0 p.1 h))

    at : (b : Bool) → option_map str (if b then Some part else None)
        ≡ option_map (λ cs. str (encode_utf8_all cs)) (if b then Some part else None)
    at true = ap (λ cs. Some (str cs)) (sym same)
    at false = refl

-- an ASCII text is one
pub ascii_is_text : (text : List ℕ) → is_ascii text ≡ true → IsUtf8 text
ascii_is_text text h = IsUtf8-from_ascii text (passes_ascii text h)

-- a part of an ASCII text as a text, of what it is as bytes
abbrev retold : Option Datum → Option Datum
retold (Some (bytes part)) = Some (str part)
retold _ = None

text_slice_is : (text : List ℕ) (from to : ℤ) → is_ascii text ≡ true
    → slice (str text) from to ≡ retold (slice (bytes text) from to)
text_slice_is text from to h = at (span from to)
  where
    cut_retold : (o : Option (List ℕ)) → option_map str o ≡ retold (option_map bytes o)
    cut_retold None = refl
    cut_retold (Some part) = refl

    at : (o : Option (ℕ × ℕ)) → option_and_then (part (str text)) o ≡ retold (option_and_then (part (bytes text)) o)
    at None = refl
    at (Some p) = sym (ascii_part_is text p h) ∙ cut_retold (cut text p)

-- the slice of an ASCII text is that of its bytes
pub text_slice : (text : List ℕ) (from to : ℤ) (part : List ℕ) → is_ascii text ≡ true
    → slice (bytes text) from to ≡ Some (bytes part) → slice (str text) from to ≡ Some (str part)
text_slice text from to part h is = text_slice_is text from to h ∙ ap retold is

-- and where there is none, there is none
pub no_text_slice : (text : List ℕ) (from to : ℤ) → is_ascii text ≡ true → slice (bytes text) from to ≡ None
    → slice (str text) from to ≡ None
no_text_slice text from to h is = text_slice_is text from to h ∙ ap retold is
