-- Texts that are cut between characters.
use Rattle.std.proofs.Common.{◌≡◌, ℕ, ◌+◌, ◌-◌, ◌<◌, ◌≤◌, subst, List, [], ◌∷◌, ◌++◌, length, drop, refl, sym, ap, ◌∙◌, arith}
use Rattle.std.specs.Prelude.{chars, encode_utf8_all, IsUtf8}
use Rattle.std.specs.Str.{IsCharBoundary}
use Rattle.std.specs.Char.{encode_utf8}
use Rattle.std.proofs.lemmas.List.{append-nil, append_assoc, length-append, drop_at, nil_from_length}
use Rattle.std.proofs.lemmas.Str.{encodes-append, chars_past_char, IsUtf8-past_char, chars-nil, IsCharBoundary-at_seam}
use Rattle.sz_value.specs.Characters.{IsRestAfter, IsMark}

-- at the front no character is passed
pub at_front : (text : List ℕ) → IsUtf8 text → IsRestAfter 0 text text
at_front text u = record { front = []; many = refl; whole = refl; characters = refl; utf8 = u }

-- one character more is passed
pub one_more : (count : ℕ) (text r t : List ℕ) (c : ℕ) → IsRestAfter count text r → r ≡ encode_utf8 c ++ t
    → IsRestAfter (count + 1) text t
one_more count text r t c h e = record {
  front = h.front ++ c ∷ [];
  many = length-append h.front (c ∷ []) ∙ ap (λ n. n + 1) h.many;
  whole = h.whole ∙ ap (λ x. encode_utf8_all h.front ++ x) e
      ∙ sym (ap (λ x. x ++ t)
      (encodes-append h.front (c ∷ []) ∙ ap (λ x. encode_utf8_all h.front ++ x) (append-nil (encode_utf8 c)))
      ∙ append_assoc (encode_utf8_all h.front) (encode_utf8 c) t);
  characters = h.characters ∙ ap (λ x. h.front ++ x) (chars_past_char r t c h.utf8 e)
      ∙ sym (append_assoc h.front (c ∷ []) (chars t));
  utf8 = IsUtf8-past_char r t c h.utf8 e;
}

-- as many characters more are passed
pub more_after : (passed more : ℕ) (text tail rest : List ℕ) → IsRestAfter passed text tail
    → IsRestAfter more tail rest → IsRestAfter (passed + more) text rest
more_after passed more text tail rest h k = record {
  front = h.front ++ k.front;
  many = length-append h.front k.front ∙ ap (λ n. n + length k.front) h.many ∙ ap (λ n. passed + n) k.many;
  whole = h.whole ∙ ap (λ x. encode_utf8_all h.front ++ x) k.whole
      ∙ sym (ap (λ x. x ++ rest) (encodes-append h.front k.front)
      ∙ append_assoc (encode_utf8_all h.front) (encode_utf8_all k.front) rest);
  characters = h.characters ∙ ap (λ x. h.front ++ x) k.characters ∙ sym (append_assoc h.front k.front (chars rest));
  utf8 = k.utf8;
}

-- fewer characters than rounds are in a text that is at its end
pub too_few : (at count : ℕ) (text rest : List ℕ) → IsRestAfter at text rest → length rest ≡ 0 → at < count
    → length (chars text) < count
too_few at count text rest h nothing less =
    let none : chars rest ≡ [] = ap chars (nil_from_length rest nothing) ∙ chars-nil in
    let e = ap length h.characters ∙ length-append h.front (chars rest) in
    let z = ap length none in omega (arith, e, z, h.many)

-- the characters of a text are those that are passed and those of the rest
pub all_after : (passed : ℕ) (text rest : List ℕ) → IsRestAfter passed text rest
    → length (chars text) ≡ passed + length (chars rest)
all_after passed text rest h = ap length h.characters ∙ length-append h.front (chars rest)
    ∙ ap (λ n. n + length (chars rest)) h.many

-- fewer characters of the rest are fewer of the text
pub fewer_after : (skip count : ℕ) (text rest : List ℕ) → IsRestAfter skip text rest → length (chars rest) < count
    → length (chars text) < skip + count
fewer_after skip count text rest h few = omega (arith, all_after skip text rest h)

-- the rest is no longer than the text
pub rest_le : (count : ℕ) (text rest : List ℕ) → IsRestAfter count text rest → length rest ≤ length text
rest_le count text rest h = omega (arith, ap length h.whole ∙ length-append (encode_utf8_all h.front) rest)

-- where the rest begins characters end
pub mark_at : (count : ℕ) (text rest : List ℕ) → IsRestAfter count text rest
    → IsMark count text (length text - length rest)
mark_at count text rest h = record {
  cut = subst (λ n. IsCharBoundary text n) size
      (IsCharBoundary-at_seam text (encode_utf8_all h.front) rest h.whole h.utf8);
  rest = subst (λ r. IsRestAfter count text r) (sym (ap (drop (length text - length rest)) h.whole
      ∙ drop_at (encode_utf8_all h.front) rest (length text - length rest) size)) h;
}
  where
    size : length (encode_utf8_all h.front) ≡ length text - length rest
    size = let bytes = ap length h.whole ∙ length-append (encode_utf8_all h.front) rest in omega (arith, bytes)
