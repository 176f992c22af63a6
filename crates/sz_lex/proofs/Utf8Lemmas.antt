-- Tokens and strings of a text that is UTF-8 are UTF-8.
use Rattle.std.proofs.Common.{◌≡◌, ℕ, zero, suc, ◌+◌, ◌-◌, ◌*◌, ◌≤◌, ◌<◌, Bool, true, false, cond, nat_lt, nat_le, ◌&&◌, eqb}
use Rattle.std.proofs.Common.{List, [], ◌∷◌, ◌++◌, length, take, drop, get_or, Option, Some, None, refl, sym, ap, subst, ◌∙◌, append_assoc, arith}
use Rattle.std.specs.Prelude.{IsUtf8, All}
use Rattle.std.specs.Char.{IsScalar, encode_utf8, digit_value}
use Rattle.std.specs.Option.{option_map, option_and_then}
use Rattle.std.proofs.lemmas.Bool.{eqb-true, ltb-true, ltb-false, lt-ltb, le-leb, leb-false}
use Rattle.std.proofs.lemmas.Bool.Decides.{nat_tests}
use Rattle.std.proofs.lemmas.List.{append-nil, length-append, take_at, drop_at, take-append-drop, get_or_at}
use Rattle.std.proofs.lemmas.List.Elements.{All-nil, All-cons}
use Rattle.std.proofs.lemmas.Str.{IsUtf8-append, IsUtf8-encode, IsUtf8-take, IsUtf8-drop, IsUtf8-between, IsUtf8-past_char}
use Rattle.std.proofs.lemmas.Str.{IsUtf8-from_ascii, IsCharBoundary-before_ascii, IsCharBoundary-after_ascii, encode_ascii}
use Rattle.sz_lex.specs.declared.token.Token.{Token}
use Rattle.sz_lex.specs.declared.token.Kind.{Kind}
use Rattle.sz_lex.specs.declared.token.Kind.TheVariants as kinds
use Rattle.sz_lex.specs.declared.sign.Sign.{Sign}
use Rattle.sz_lex.specs.declared.sign.Sign.TheVariants as signs
use Rattle.sz_lex.specs.declared.escape.Escape.{Escape}
use Rattle.sz_lex.specs.declared.escape.Escape.TheVariants as escapes
use Rattle.sz_lex.specs.declared.escape.Quoted.{Quoted}
use Rattle.sz_lex.specs.declared.escape.Quoted.TheVariants as quoteds
use Rattle.sz_lex.specs.Numbers.{digits_from}
use Rattle.sz_lex.specs.Classes.{is_word}
use Rattle.sz_lex.specs.Signs.{sign_text}
use Rattle.sz_lex.specs.Literals.{Part, escape, letter_escape, character_escape, escape_of, escape_bytes, parts_value, parts_text, IsQuoted}
use Rattle.sz_lex.specs.Literals.{opening, plain, escaped}
use Rattle.sz_lex.specs.Tokens.{all_word, IsName, IsLexeme}
use Rattle.sz_lex.specs.Lexed.{lexeme_of}
use Rattle.sz_lex.specs.Laws.{LieInOrder, LexemesAreUtf8, StringsAreUtf8}
use Rattle.sz_lex.proofs.WordLemmas.{apart, and_parts, letter_word, digit_word, word_is_name}
use Rattle.sz_lex.proofs.ItemLemmas.{no_empty}
use Rattle.sz_lex.proofs.LawLemmas.{spans_in_order}
use Rattle.sz_lex.proofs.LiteralLemmas.{none_some, values_of, escaped_of, plain_value}
use Rattle.sz_lex.proofs.NumberLemmas.{four_digits, no_lt}

-- ---- the ends of a token are ASCII

-- the first and the last byte
record Ends (l : List ℕ) : Type 0 where
  first : ℕ
  more : List ℕ
  begins : l ≡ first ∷ more
  first_low : first < 128
  front : List ℕ
  last : ℕ
  ends : l ≡ front ++ (last ∷ [])
  last_low : last < 128

abbrev all_low : List ℕ → Bool
all_low [] = true
all_low (b ∷ bs) = nat_lt b 128 && all_low bs

record Last (l : List ℕ) : Type 0 where
  front : List ℕ
  last : ℕ
  ends : l ≡ front ++ (last ∷ [])
  low : last < 128

last_low : (b : ℕ) (l : List ℕ) → all_low (b ∷ l) ≡ true → Last (b ∷ l)
last_low b [] h = record { front = []; last = b; ends = refl; low = ltb-true b 128 (and_parts (nat_lt b 128) true h).0 }
last_low b (c ∷ l) h =
    let r = last_low c l (and_parts (nat_lt b 128) (all_low (c ∷ l)) h).1 in
    record { front = b ∷ r.front; last = r.last; ends = ap (λ (t : List ℕ). b ∷ t) r.ends; low = r.low }

low_ends : (b : ℕ) (l : List ℕ) → all_low (b ∷ l) ≡ true → Ends (b ∷ l)
low_ends b l h =
    let r = last_low b l h in
    record {
      first = b;
      more = l;
      begins = refl;
      first_low = ltb-true b 128 (and_parts (nat_lt b 128) (all_low l) h).0;
      front = r.front;
      last = r.last;
      ends = r.ends;
      last_low = r.low;
    }

word_low : (b : ℕ) → is_word b ≡ true → nat_lt b 128 ≡ true
word_low b h = grind (arith, nat_tests)

words_low : (l : List ℕ) → all_word l ≡ true → all_low l ≡ true
words_low [] h = refl
words_low (b ∷ l) h = let p = and_parts (is_word b) (all_word l) h in rw (word_low b p.0) (words_low l p.1)

word_ends : (b : ℕ) (l : List ℕ) → is_word b ≡ true → all_word l ≡ true → Ends (b ∷ l)
word_ends b l w h = low_ends b l (rw (word_low b w) (words_low l h))

signs_low : (s : Sign) → all_low (sign_text s) ≡ true
signs_low s = elim s as (λ (s : Sign). all_low (sign_text s) ≡ true) [ signs.Arrow ↦ refl | _ ↦ refl ]

quote_ends : (b c : ℕ) (l inner : List ℕ) → b ∷ l ≡ c ∷ (inner ++ (c ∷ [])) → c < 128 → Ends (b ∷ l)
quote_ends b c l inner e low = record {
  first = c;
  more = inner ++ (c ∷ []);
  begins = e;
  first_low = low;
  front = c ∷ inner;
  last =
      c;
  ends = e;
  last_low = low;
}

quoted_ends : (q : Quoted) (l v : List ℕ) → IsQuoted q l v → (first : ℕ) (more : List ℕ) → opening q ≡ first ∷ more
    → first < 128 → Ends l
quoted_ends q l v h first more e low = record {
  first = first;
  more = more ++ (parts_text h.parts ++ (34 ∷ []));
  begins = h.spelled ∙ ap (λ (t : List ℕ). t ++ (parts_text h.parts ++ (34 ∷ []))) e;
  first_low = low;
  front = opening q ++ parts_text h.parts;
  last = 34;
  ends = h.spelled ∙ sym (append_assoc (opening q) (parts_text h.parts) (34 ∷ []));
  last_low = omega arith;
}

ends_of : (k : Kind) (b : ℕ) (l : List ℕ) → IsLexeme k (b ∷ l) → Ends (b ∷ l)
ends_of kinds.Name b l h = word_ends b l (letter_word b h.0.0) h.0.1
ends_of (kinds.Word w) b l h = let n : IsName (b ∷ l) = subst IsName (sym h) (word_is_name w) in
    word_ends b l (letter_word b n.0) n.1
ends_of (kinds.Number n) b l h = word_ends b l (digit_word b h.0.0) h.0.1
ends_of (kinds.Character c) b l (plain s i e) = quote_ends b 39 l (encode_utf8 c) e (omega arith)
ends_of (kinds.Character c) b l (escaped t i e) = quote_ends b 39 l (92 ∷ t) e (omega arith)
ends_of kinds.Str b l h = quoted_ends _ (b ∷ l) h.0 h.1 34 [] refl (omega arith)
ends_of kinds.Bytes b l h = quoted_ends _ (b ∷ l) h.0 h.1 66 (34 ∷ []) refl (omega arith)
ends_of (kinds.Sign s) b l h = low_ends b l (ap all_low h ∙ signs_low s)

-- ---- so a token's bytes can be cut out of a text

cut : (front l rest text : List ℕ) → Ends l → text ≡ front ++ (l ++ rest) → IsUtf8 text → IsUtf8 l
cut front l rest text h e utf8 =
    let i = length front in
    let size : length l ≡ length h.front + 1 = omega (arith, ap length h.ends, length-append h.front (h.last ∷ [])) in
    let whole : length text ≡ i + (length l + length rest) =
    omega (arith, ap length e, length-append front (l ++ rest), length-append l rest) in
    let first : get_or text i 0 ≡ h.first = ap (λ (t : List ℕ). get_or t i 0) (e
    ∙ ap (λ (t : List ℕ). front ++ (t ++ rest)) h.begins) ∙ get_or_at front h.first (h.more ++ rest) 0 i refl in
    let parts : text ≡ (front ++ h.front) ++ (h.last ∷ rest) =
    e ∙ ap (λ (t : List ℕ). front ++ (t ++ rest)) h.ends
    ∙ ap (λ (t : List ℕ). front ++ t) (append_assoc h.front (h.last ∷ []) rest)
    ∙ sym (append_assoc front h.front (h.last ∷ rest)) in
    let last : get_or text (i + length h.front) 0 ≡ h.last = ap (λ (t : List ℕ). get_or t (i + length h.front) 0) parts
    ∙ get_or_at (front ++ h.front) h.last rest 0 (i + length h.front) (length-append front h.front) in
    let low : get_or text i 0 < 128 = omega (arith, first, h.first_low) in
    let high : get_or text (i + length h.front) 0 < 128 = omega (arith, last, h.last_low) in
    let before = IsCharBoundary-before_ascii text i (omega (arith, whole, size)) low in
    let after = IsCharBoundary-after_ascii text (i + length h.front) utf8 (omega (arith, whole, size)) high in
    let inside = IsUtf8-between text i (i + length h.front + 1) utf8 (omega arith) before after in
    let n : i + length h.front + 1 - i ≡ length l = omega (arith, size) in
    subst IsUtf8 (ap (λ (m : ℕ). take m (drop i text)) n ∙ ap (λ (t : List ℕ). take (length l) (drop i t)) e
    ∙ ap (take (length l)) (drop_at front (l ++ rest) i refl) ∙ take_at l rest (length l) refl) inside

ends : (k : Kind) (l : List ℕ) → IsLexeme k l → Ends l
ends k [] h = absurd (no_empty k h)
ends k (b ∷ l) h = ends_of k b l h

lexemes : (ts : List Token) (at : ℕ) (text : List ℕ) → IsUtf8 text → LieInOrder text at ts
    → All (λ (t : Token). IsUtf8 (lexeme_of text t)) ts
lexemes [] at text utf8 h = All-nil (λ (t : Token). IsUtf8 (lexeme_of text t))
lexemes (t ∷ ts) at text utf8 h =
    let after_start = drop t.start text in
    let parts : text ≡ take t.start text ++ (lexeme_of text t ++ drop t.len after_start) =
    sym (take-append-drop t.start text)
    ∙ ap (λ (x : List ℕ). take t.start text ++ x) (sym (take-append-drop t.len after_start)) in
    All-cons (λ (t : Token). IsUtf8 (lexeme_of text t)) t ts
    (cut (take t.start text) (lexeme_of text t) (drop t.len after_start) text
    (ends t.kind (lexeme_of text t) h.4) parts utf8) (lexemes ts (t.start + t.len) text utf8 h.5)

pub lexemes_are_utf8 : LexemesAreUtf8
lexemes_are_utf8 text ts h = lexemes ts 0 text h.utf8 (spans_in_order text ts h)

-- ---- strings

-- a text before and after an ASCII byte
before_low : (run : List ℕ) (b : ℕ) (rest : List ℕ) → b < 128 → IsUtf8 (run ++ (b ∷ rest)) → IsUtf8 run
before_low run b rest low utf8 =
    let n = length run in
    let at : get_or (run ++ (b ∷ rest)) n 0 ≡ b = get_or_at run b rest 0 n refl in
    let boundary = IsCharBoundary-before_ascii (run ++ (b ∷ rest)) n (omega (arith, length-append run (b ∷ rest)))
    (omega (arith, at, low)) in
    subst IsUtf8 (take_at run (b ∷ rest) n refl) (IsUtf8-take (run ++ (b ∷ rest)) n utf8 boundary)

from_low : (run : List ℕ) (b : ℕ) (rest : List ℕ) → b < 128 → IsUtf8 (run ++ (b ∷ rest)) → IsUtf8 (b ∷ rest)
from_low run b rest low utf8 =
    let n = length run in
    let at : get_or (run ++ (b ∷ rest)) n 0 ≡ b = get_or_at run b rest 0 n refl in
    let boundary = IsCharBoundary-before_ascii (run ++ (b ∷ rest)) n (omega (arith, length-append run (b ∷ rest)))
    (omega (arith, at, low)) in
    subst IsUtf8 (drop_at run (b ∷ rest) n refl) (IsUtf8-drop (run ++ (b ∷ rest)) n utf8 boundary)

after_low : (b : ℕ) (rest : List ℕ) → b < 128 → IsUtf8 (b ∷ rest) → IsUtf8 rest
after_low b rest low utf8 =
    IsUtf8-past_char (b ∷ rest) rest b utf8 (ap (λ (t : List ℕ). t ++ rest) (sym (encode_ascii b low)))

after_lows : (l rest : List ℕ) → all_low l ≡ true → IsUtf8 (l ++ rest) → IsUtf8 rest
after_lows [] rest h utf8 = utf8
after_lows (b ∷ l) rest h utf8 = let p = and_parts (nat_lt b 128) (all_low l) h in
    after_lows l rest p.1 (after_low b (l ++ rest) (ltb-true b 128 p.0) utf8)

-- an escape is written in ASCII, and its character is one
record IsAsciiEscape (text : List ℕ) (e : Escape) : Type 0 where
  low : all_low text ≡ true
  scalar : (c : ℕ) → e ≡ escapes.Char c → IsScalar c

digit_low : (b : ℕ) → nat_lt (digit_value b) 16 ≡ true → nat_lt b 128 ≡ true
digit_low b h = go (nat_lt b 128) refl
  where
    go : (x : Bool) → nat_lt b 128 ≡ x → nat_lt b 128 ≡ true
    go true e = e
    go false e =
        let high : 128 ≤ b = ltb-false b 128 e in
        let none : digit_value b ≡ 36 = rw (
          no_lt b 48 (omega (arith, high)),
          no_lt b 58 (omega (arith, high)),
          no_lt b 65 (omega (arith, high)),
          no_lt b 91 (omega (arith, high)),
          no_lt b 97 (omega (arith, high)),
          no_lt b 123 (omega (arith, high)),
        ) refl in
        apart (sym h ∙ ap (λ (n : ℕ). nat_lt n 16) none)

digits_low : (n : ℕ) (ds : List ℕ) (m : ℕ) → digits_from 16 n ds ≡ Some m → all_low ds ≡ true
digits_low n [] m h = refl
digits_low n (b ∷ ds) m h = go (nat_lt (digit_value b) 16) refl (digits_low (n * 16 + digit_value b) ds m)
  where
    go : (x : Bool) → nat_lt (digit_value b) 16 ≡ x
        → (digits_from 16 (n * 16 + digit_value b) ds ≡ Some m → all_low ds ≡ true)
        → all_low (b ∷ ds) ≡ true
    go false e again = let nothing : None ≡ Some m = rw e at h in none_some nothing
    go true e again = rw (digit_low b e) (again (rw e at h))

low_scalar : (c : ℕ) → c < 55296 → IsScalar c
low_scalar c low = rw (lt-ltb c 55296 low) refl

-- an escape of one letter, and its character
record Letter (k : ℕ) (e : Escape) : Type 0 where
  c : ℕ
  is : e ≡ escapes.Char c
  key : k < 128
  low : c < 128

letter : (k : ℕ) (e : Escape) → letter_escape k ≡ Some e → Letter k e
letter k e h = go (eqb k 110) (eqb k 116) (eqb k 114) (eqb k 92) (eqb k 34) (eqb k 39) refl refl refl refl refl refl
  where
    of : (c : ℕ) → k < 128 → c < 128 → Some (escapes.Char c) ≡ Some e → Letter k e
    of c key low is = let same : escapes.Char c ≡ e = cc in record { c = c; is = sym same; key = key; low = low }

    go : (x y z t u v : Bool) → eqb k 110 ≡ x → eqb k 116 ≡ y → eqb k 114 ≡ z → eqb k 92 ≡ t → eqb k 34 ≡ u
        → eqb k 39 ≡ v → Letter k e
    go true y z t u v p q r f g i = of 10 (omega (arith, eqb-true k 110 p)) (omega arith) (rw p at h)
    go false true z t u v p q r f g i = of 9 (omega (arith, eqb-true k 116 q)) (omega arith) (rw (p, q) at h)
    go false false true t u v p q r f g i = of 13 (omega (arith, eqb-true k 114 r)) (omega arith) (rw (p, q, r) at h)
    go false false false true u v p q r f g i =
        of k (omega (arith, eqb-true k 92 f)) (omega (arith, eqb-true k 92 f)) (rw (p, q, r, f) at h)
    go false false false false true v p q r f g i =
        of k (omega (arith, eqb-true k 34 g)) (omega (arith, eqb-true k 34 g)) (rw (p, q, r, f, g) at h)
    go false false false false false true p q r f g i = of k (omega (arith, eqb-true k 39 i)) (omega (
      arith,
      eqb-true k 39 i,
    )) (rw (p, q, r, f, g, i) at h)
    go false false false false false false p q r f g i = let nothing : None ≡ Some e = rw (p, q, r, f, g, i) at h in
        none_some nothing

letter_ascii : (k : ℕ) (e : Escape) → Letter k e → IsAsciiEscape (k ∷ []) e
letter_ascii k e l = record {
  low = rw (lt-ltb k 128 l.key) refl;
  scalar = λ c is. let same : escapes.Char l.c ≡ escapes.Char c = sym l.is ∙ is in let code : l.c ≡ c =
      cc in low_scalar c (omega (arith, code, l.low));
}

byte_ascii : (k : ℕ) (ds : List ℕ) (e : Escape)
    → cond (eqb k 120) (option_map escapes.Byte (digits_from 16 0 ds)) None ≡ Some e
    → IsAsciiEscape (k ∷ ds) e
byte_ascii k ds e h = go (eqb k 120) (digits_from 16 0 ds) refl refl
  where
    go : (x : Bool) (o : Option ℕ) → eqb k 120 ≡ x → digits_from 16 0 ds ≡ o → IsAsciiEscape (k ∷ ds) e
    go false o p q = let nothing : None ≡ Some e = rw p at h in none_some nothing
    go true None p q = let nothing : None ≡ Some e = rw q at (rw p at h) in none_some nothing
    go true (Some m) p q =
        let is : Some (escapes.Byte m) ≡ Some e = rw q at (rw p at h) in
        record {
          low = rw (lt-ltb k 128 (omega (arith, eqb-true k 120 p))) (digits_low 0 ds m q);
          scalar = λ c other. let both : Some (escapes.Byte m) ≡ Some (escapes.Char c) =
              is ∙ ap (λ (x : Escape). Some x) other in absurd cc;
        }

character_scalar : (m : ℕ) (e : Escape) → m < 65536 → character_escape m ≡ Some e → (c : ℕ)
    → e ≡ escapes.Char c → IsScalar c
character_scalar m e most h c is = go (nat_le 0xD800 m) (nat_le m 0xDFFF) refl refl
  where
    of : IsScalar m → Some (escapes.Char m) ≡ Some e → IsScalar c
    of s same = let both : Some (escapes.Char m) ≡ Some (escapes.Char c) = same
        ∙ ap (λ (x : Escape). Some x) is in let code : m ≡ c = cc in subst IsScalar code s

    high : 0xDFFF < m → IsScalar m
    high lt = rw (
      no_lt m 55296 (omega (arith, lt)),
      le-leb 57344 m (omega (arith, lt)),
      lt-ltb m 1114112 (omega (arith, most)),
    ) refl

    go : (x y : Bool) → nat_le 0xD800 m ≡ x → nat_le m 0xDFFF ≡ y → IsScalar c
    go true true p q = let nothing : None ≡ Some e = rw (p, q) at h in none_some nothing
    go true false p q = of (high (leb-false m 0xDFFF q)) (rw (p, q) at h)
    go false y p q = of (low_scalar m (omega (arith, leb-false 0xD800 m p))) (rw p at h)

character_ascii : (k : ℕ) (ds : List ℕ) (e : Escape) → length ds ≡ 4
    → cond (eqb k 117) (option_and_then character_escape (digits_from 16 0 ds)) None ≡ Some e → IsAsciiEscape (k ∷ ds) e
character_ascii k ds e len h = go (eqb k 117) (digits_from 16 0 ds) refl refl
  where
    go : (x : Bool) (o : Option ℕ) → eqb k 117 ≡ x → digits_from 16 0 ds ≡ o → IsAsciiEscape (k ∷ ds) e
    go false o p q = let nothing : None ≡ Some e = rw p at h in none_some nothing
    go true None p q = let nothing : None ≡ Some e = rw q at (rw p at h) in none_some nothing
    go true (Some m) p q = record {
      low = rw (lt-ltb k 128 (omega (arith, eqb-true k 117 p))) (digits_low 0 ds m q);
      scalar = character_scalar m e (four_digits ds m len q) (rw q at (rw p at h));
    }

ascii_escape : (text : List ℕ) (e : Escape) → escape_of text ≡ Some e → IsAsciiEscape text e
ascii_escape [] e h = none_some h
ascii_escape (k ∷ []) e h = letter_ascii k e (letter k e h)
ascii_escape (k ∷ a ∷ []) e h = none_some h
ascii_escape (k ∷ a ∷ b ∷ []) e h = byte_ascii k (a ∷ b ∷ []) e h
ascii_escape (k ∷ a ∷ b ∷ c ∷ []) e h = none_some h
ascii_escape (k ∷ a ∷ b ∷ c ∷ d ∷ []) e h = character_ascii k (a ∷ b ∷ c ∷ d ∷ []) e refl h
ascii_escape (k ∷ a ∷ b ∷ c ∷ d ∷ f ∷ g) e h = none_some h

value_utf8 : (e : Escape) (v : List ℕ) → ((c : ℕ) → e ≡ escapes.Char c → IsScalar c)
    → escape_bytes quoteds.Str e ≡ Some v → IsUtf8 v
value_utf8 (escapes.Char c) v scalar h = let same : encode_utf8 c ≡ v = cc in
    subst IsUtf8 same (IsUtf8-encode c (scalar c refl))
value_utf8 (escapes.Byte b) v scalar h = go (nat_lt b 128) refl
  where
    go : (x : Bool) → nat_lt b 128 ≡ x → IsUtf8 v
    go false e = let nothing : None ≡ Some v = rw e at h in none_some nothing
    go true e = let is : Some (b ∷ []) ≡ Some v = rw e at h in let same : b ∷ [] ≡ v =
        cc in subst IsUtf8 same (IsUtf8-from_ascii (b ∷ []) (λ i. one_low i (ltb-true b 128 e)))
      where
        one_low : (i : ℕ) → b < 128 → get_or (b ∷ []) i 0 < 128
        one_low zero low = low
        one_low (suc i) low = omega arith

parts_utf8 : (ps : List Part) (run value : List ℕ) → IsUtf8 (run ++ (parts_text ps ++ (34 ∷ [])))
    → parts_value quoteds.Str ps ≡ Some value → IsUtf8 (run ++ value)
parts_utf8 [] run value utf8 h = let nothing : [] ≡ value =
    cc in subst (λ (v : List ℕ). IsUtf8 (run ++ v)) nothing
    (subst IsUtf8 (sym (append-nil run)) (before_low run 34 [] (omega arith) utf8))
parts_utf8 (plain b ∷ ps) run value utf8 h =
    let vs = values_of quoteds.Str (plain b) ps value h in
    let more = parts_utf8 ps (run ++ (b ∷ [])) vs.vs
    (subst IsUtf8 (sym (append_assoc run (b ∷ []) (parts_text ps ++ (34 ∷ [])))) utf8) vs.more in
    subst IsUtf8 (append_assoc run (b ∷ []) vs.vs ∙ ap (λ (w : List ℕ). run ++ w) (ap (λ (v : List ℕ). v ++ vs.vs)
    (plain_value b vs.v vs.one) ∙ sym vs.joined)) more
parts_utf8 (escape text ∷ ps) run value utf8 h =
    let vs = values_of quoteds.Str (escape text) ps value h in
    let es = escaped_of quoteds.Str text vs.v vs.one in
    let a = ascii_escape text es.e es.is in
    let front = before_low run 92 _ (omega arith) utf8 in
    let rest = after_low 92 _ (omega arith) (from_low run 92 _ (omega arith) utf8) in
    let left = after_lows text
    (parts_text ps ++ (34 ∷ [])) a.low (subst IsUtf8 (append_assoc text (parts_text ps) (34 ∷ [])) rest) in
    let more = parts_utf8 ps [] vs.vs left vs.more in
    let whole = IsUtf8-append run (vs.v ++ vs.vs) front
    (IsUtf8-append vs.v vs.vs (value_utf8 es.e vs.v a.scalar es.bytes) more) in
    subst (λ (v : List ℕ). IsUtf8 (run ++ v)) (sym vs.joined) whole

pub strings_are_utf8 : StringsAreUtf8
strings_are_utf8 literal value utf8 h =
    parts_utf8 h.parts [] value (after_low 34 (parts_text h.parts ++ (34 ∷ [])) (omega arith)
    (subst IsUtf8 h.spelled utf8)) h.stands
