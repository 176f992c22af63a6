-- What the first byte of a form tells, and that a token at the front of a text is the longest.
use Rattle.std.proofs.Common.{◌≡◌, ℕ, suc, ◌+◌, true, false, eqb, List, [], ◌∷◌, ◌++◌, length, Some, refl, sym, ap, subst, ◌∙◌, append_assoc, arith}
use Rattle.std.proofs.lemmas.List.{length-append, append_cancel_left}
use Rattle.std.proofs.lemmas.Bool.{eq-eqb}
use Rattle.std.specs.Char.{encode_utf8}
use Rattle.sz_lex.specs.declared.token.Kind.TheVariants as kinds
use Rattle.sz_lex.specs.declared.escape.Quoted.{Quoted}
use Rattle.sz_lex.specs.declared.escape.Quoted.TheVariants as quoteds
use Rattle.sz_lex.specs.declared.sign.Sign.{Sign}
use Rattle.sz_lex.specs.Classes.{is_letter, is_word}
use Rattle.sz_lex.specs.Signs.{sign_text}
use Rattle.sz_lex.specs.Literals.{parts_text, IsQuoted, opening, IsCharacter, plain, escaped}
use Rattle.sz_lex.specs.Tokens.{all_word, IsName, HasForm, name, run, token, opens, IsLongest}
use Rattle.sz_lex.specs.Reading.{Body, body_at, character_at}
use Rattle.sz_lex.proofs.LiteralLemmas.{body_read}
use Rattle.sz_lex.proofs.CharacterLemmas.{escaped_read, plain_at}
use Rattle.sz_lex.proofs.WordLemmas.{letter_word, digit_word, apart, heads, tails, and_parts, Stops, all_word_end, word_is_name, BeginsSign}
use Rattle.sz_lex.proofs.WordLemmas.{begins_sign}

-- what a form can be, by its first byte
pub data Shape (b : ℕ) (l : List ℕ) : Type 0 where
  words : is_word b ≡ true → all_word l ≡ true → Shape b l
  quoted : (q : Quoted) (v : List ℕ) → IsQuoted q (b ∷ l) v → Shape b l
  half : b ∷ l ≡ 66 ∷ 34 ∷ [] → Shape b l
  character : (c : ℕ) → IsCharacter (b ∷ l) c → Shape b l
  sign : (s : Sign) → b ∷ l ≡ sign_text s → Shape b l

named : (b : ℕ) (l : List ℕ) → IsName (b ∷ l) → Shape b l
named b l h = words (letter_word b h.0) h.1

pub shape_of : (b : ℕ) (l : List ℕ) → HasForm (b ∷ l) → Shape b l
shape_of b l (name h) = named b l h
shape_of b l (run h) = words (digit_word b h.0) h.1
shape_of b l (opens h) = half h
shape_of b l (token kinds.Name h) = named b l h.0
shape_of b l (token (kinds.Word w) h) = named b l (subst IsName (sym h) (word_is_name w))
shape_of b l (token (kinds.Number n) h) = words (digit_word b h.0.0) h.0.1
shape_of b l (token (kinds.Character c) h) = character c h
shape_of b l (token kinds.Str h) = quoted quoteds.Str h.0 h.1
shape_of b l (token kinds.Bytes h) = quoted quoteds.Bytes h.0 h.1
shape_of b l (token (kinds.Sign s) h) = sign s h

-- ---- literals between quotes

-- a literal's body, read before whatever follows
pub record Opened (q : Quoted) (literal v : List ℕ) : Type 0 where
  pub body : List ℕ
  pub spelled : literal ≡ opening q ++ body
  pub read : (rest : List ℕ) → body_at q 0 (body ++ rest) ≡ Some (record { len = length body; value = v })

pub opened : (q : Quoted) (literal v : List ℕ) → IsQuoted q literal v → Opened q literal v
opened q literal v h =
    let n : suc (length (parts_text h.parts)) ≡ length (parts_text h.parts ++ (34 ∷ [])) =
    omega (arith, length-append (parts_text h.parts) (34 ∷ [])) in
    record {
      body = parts_text h.parts ++ (34 ∷ []);
      spelled = h.spelled;
      read = λ rest. ap (body_at q 0) (append_assoc (parts_text h.parts) (34 ∷ []) rest)
          ∙ body_read q h.parts rest v h.stands ∙ ap (λ (m : ℕ). Some (record { len = m; value = v })) n;
    }

nil_of : (xs : List ℕ) → length xs ≡ 0 → xs ≡ []
nil_of [] e = refl
nil_of (x ∷ xs) e = absurd (omega arith)

same_len : (b c : Body) → Some b ≡ Some c → b.len ≡ c.len
same_len b c e = ap (λ (b : Body). b.len) (some_is e)
  where
    some_is : Some b ≡ Some c → b ≡ c
    some_is e = cc

-- the literals of one text are one
pub quoted_longest : (q : Quoted) (l v extra w rest others : List ℕ) → IsQuoted q l v → IsQuoted q (l ++ extra) w
    → rest ≡ extra ++ others → extra ≡ []
quoted_longest q l v extra w rest others h k e =
    let a = opened q l v h in
    let b = opened q (l ++ extra) w k in
    let longer : opening q ++ (a.body ++ extra) ≡ opening q ++ b.body = sym (append_assoc (opening q) a.body extra)
    ∙ ap (λ (t : List ℕ). t ++ extra) (sym a.spelled) ∙ b.spelled in
    let body : a.body ++ extra ≡ b.body = append_cancel_left (opening q) (a.body ++ extra) b.body longer in
    let text : a.body ++ rest ≡ b.body ++ others =
    ap (λ (t : List ℕ). a.body ++ t) e ∙ sym (append_assoc a.body extra others)
    ∙ ap (λ (t : List ℕ). t ++ others) body in
    let len : length a.body ≡ length b.body =
    same_len _ _ (sym (a.read rest) ∙ ap (body_at q 0) text ∙ b.read others) in
    nil_of extra (omega (arith, ap length body, length-append a.body extra, len))

pub character_read : (b c : ℕ) (l rest : List ℕ) → IsCharacter (b ∷ l) c → character_at (l ++ rest) ≡ Some (c, length l)
character_read b c l rest (plain scalar itself h) =
    let body = encode_utf8 c in
    let n : length body + 1 ≡ length l = omega (arith, ap length (tails h), length-append body (39 ∷ [])) in
    ap character_at (ap (λ (t : List ℕ). t ++ rest) (tails h) ∙ append_assoc body (39 ∷ []) rest) ∙ plain_at c (record {
      scalar =
          scalar;
      itself = itself;
    }) rest ∙ ap (λ (m : ℕ). Some (c, m)) n
character_read b c l rest (escaped text code h) =
    let n : suc (length text) + 1 ≡ length l = omega (arith, ap length (tails h), length-append text (39 ∷ [])) in
    ap character_at
    (ap (λ (t : List ℕ). t ++ rest) (tails h) ∙ ap (λ (t : List ℕ). 92 ∷ t) (append_assoc text (39 ∷ []) rest))
    ∙ escaped_read text rest c code ∙ ap (λ (m : ℕ). Some (c, m)) n

pub character_quote : (b c : ℕ) (l : List ℕ) → IsCharacter (b ∷ l) c → b ≡ 39
character_quote b c l (plain scalar itself h) = heads h
character_quote b c l (escaped text code h) = heads h

second_same : (x y : ℕ × ℕ) → Some x ≡ Some y → x.1 ≡ y.1
second_same x y e = ap (λ (p : ℕ × ℕ). p.1) (some_is e)
  where
    some_is : Some x ≡ Some y → x ≡ y
    some_is e = cc

pub character_longest : (b c d : ℕ) (l extra rest others : List ℕ) → IsCharacter (b ∷ l) c
    → IsCharacter (b ∷ (l ++ extra)) d → rest ≡ extra ++ others → extra ≡ []
character_longest b c d l extra rest others h k e =
    let text : l ++ rest ≡ (l ++ extra) ++ others = ap (λ (t : List ℕ). l ++ t) e ∙ sym (append_assoc l extra others) in
    let len : length l ≡ length (l ++ extra) =
    second_same (c, length l) (d, length (l ++ extra)) (sym (character_read b c l rest h)
    ∙ ap character_at text ∙ character_read b d (l ++ extra) others k) in
    nil_of extra (omega (arith, length-append l extra, len))

-- the first bytes of a literal between double quotes
abbrev pub QuotedFront : Quoted → ℕ → List ℕ → Type 0
QuotedFront quoteds.Str b l = b ≡ 34
QuotedFront quoteds.Bytes b l = (t : List ℕ) × (b ≡ 66) × (l ≡ 34 ∷ t)

pub quoted_front : (q : Quoted) (b : ℕ) (l v : List ℕ) → IsQuoted q (b ∷ l) v → QuotedFront q b l
quoted_front quoteds.Str b l v h = heads h.spelled
quoted_front quoteds.Bytes b l v h = (_, heads h.spelled, tails h.spelled)

-- ---- the longest

-- a whole run of word's bytes is the longest, unless it is the B of bytes
pub words_longest : (b : ℕ) (l rest : List ℕ) → is_word b ≡ true → Stops rest
    → ((t : List ℕ) → b ≡ 66 → l ++ rest ≡ 34 ∷ t → ⊥) → IsLongest (b ∷ l) rest
words_longest b l rest w stops no_b extra others e form = go (shape_of b (l ++ extra) form)
  where
    no_word : (d : ℕ) → is_word d ≡ false → b ≡ d → extra ≡ []
    no_word d outside same = apart (sym w ∙ ap is_word same ∙ outside)

    opening_b : (t : List ℕ) → b ≡ 66 → l ++ extra ≡ 34 ∷ t → extra ≡ []
    opening_b t is h = absurd (no_b (t ++ others) is (ap (λ (x : List ℕ). l ++ x) e ∙ sym (append_assoc l extra others)
        ∙ ap (λ (x : List ℕ). x ++ others) h))

    front : (q : Quoted) → QuotedFront q b (l ++ extra) → extra ≡ []
    front quoteds.Str is = no_word 34 refl is
    front quoteds.Bytes h = opening_b h.0 h.1 h.2

    sign_byte : (s : Sign) → BeginsSign b → extra ≡ []
    sign_byte s h = no_word b (rw (h.letter, h.digit) refl) refl

    go : Shape b (l ++ extra) → extra ≡ []
    go (words w all) = all_word_end l extra others rest stops e all
    go (quoted q v h) = front q (quoted_front q b (l ++ extra) v h)
    go (half h) = opening_b [] (heads h) (tails h)
    go (character c h) = no_word 39 refl (character_quote b c (l ++ extra) h)
    go (sign s h) = sign_byte s (begins_sign s b (l ++ extra) (sym h))

-- a byte that begins a sign alone makes each form that it begins a sign
pub sign_form : (b : ℕ) (l : List ℕ) → BeginsSign b → HasForm (b ∷ l) → (s : Sign) × (b ∷ l ≡ sign_text s)
sign_form b l h form = go (shape_of b l form)
  where
    R : Type 0
    R = (s : Sign) × (b ∷ l ≡ sign_text s)

    no_word : is_word b ≡ true → R
    no_word w = let no : is_word b ≡ false = rw (h.letter, h.digit) refl in apart (sym w ∙ no)

    front : (q : Quoted) → QuotedFront q b l → R
    front quoteds.Str is = apart (ap (λ (x : ℕ). eqb x 34) (sym is) ∙ h.quotes.0)
    front quoteds.Bytes k = no_word (ap is_word k.1)

    go : Shape b l → R
    go (words w all) = no_word w
    go (quoted q v k) = front q (quoted_front q b l v k)
    go (half k) = no_word (ap is_word (heads k))
    go (character c k) = apart (ap (λ (x : ℕ). eqb x 39) (sym (character_quote b c l k)) ∙ h.quotes.1)
    go (sign s k) = (s, k)

-- the first byte is this, and so no other
other_byte : (b c d : ℕ) {B : Type 0} → eqb c d ≡ false → b ≡ c → b ≡ d → B
other_byte b c d apart_is is other = apart (sym (eq-eqb c d (sym is ∙ other)) ∙ apart_is)

str_longest : (b : ℕ) (l v rest : List ℕ) → IsQuoted quoteds.Str (b ∷ l) v → IsLongest (b ∷ l) rest
str_longest b l v rest h extra others e form = go (shape_of b (l ++ extra) form)
  where
    is : b ≡ 34
    is = quoted_front quoteds.Str b l v h

    other : (q : Quoted) (w : List ℕ) → IsQuoted q (b ∷ (l ++ extra)) w → extra ≡ []
    other quoteds.Str w k = quoted_longest quoteds.Str (b ∷ l) v extra w rest others h k e
    other quoteds.Bytes w k = other_byte b 34 66 refl is (quoted_front quoteds.Bytes b (l ++ extra) w k).1

    go : Shape b (l ++ extra) → extra ≡ []
    go (words w all) = apart (sym w ∙ ap is_word is)
    go (quoted q w k) = other q w k
    go (half k) = other_byte b 34 66 refl is (heads k)
    go (character c k) = other_byte b 34 39 refl is (character_quote b c (l ++ extra) k)
    go (sign s k) = apart (ap (λ (x : ℕ). eqb x 34) (sym is) ∙ (begins_sign s b (l ++ extra) (sym k)).quotes.0)

bytes_longest : (b : ℕ) (l v rest : List ℕ) → IsQuoted quoteds.Bytes (b ∷ l) v → IsLongest (b ∷ l) rest
bytes_longest b l v rest h extra others e form = go (shape_of b (l ++ extra) form)
  where
    is : (t : List ℕ) × (b ≡ 66) × (l ≡ 34 ∷ t)
    is = quoted_front quoteds.Bytes b l v h

    no_words : all_word (l ++ extra) ≡ true → extra ≡ []
    no_words all =
        let first : all_word (34 ∷ (is.0 ++ extra)) ≡ true = ap (λ (x : List ℕ). all_word (x ++ extra)) (sym is.2)
        ∙ all in apart (sym (and_parts false (all_word (is.0 ++ extra)) first).0)

    other : (q : Quoted) (w : List ℕ) → IsQuoted q (b ∷ (l ++ extra)) w → extra ≡ []
    other quoteds.Bytes w k = quoted_longest quoteds.Bytes (b ∷ l) v extra w rest others h k e
    other quoteds.Str w k = other_byte b 66 34 refl is.1 (quoted_front quoteds.Str b (l ++ extra) w k)

    too_short : b ∷ (l ++ extra) ≡ 66 ∷ 34 ∷ [] → extra ≡ []
    too_short k = absurd (omega (
      arith,
      ap length k,
      ap length h.spelled,
      length-append l extra,
      length-append (parts_text h.parts) (34 ∷ []),
    ))

    go : Shape b (l ++ extra) → extra ≡ []
    go (words w all) = no_words all
    go (quoted q w k) = other q w k
    go (half k) = too_short k
    go (character c k) = other_byte b 66 39 refl is.1 (character_quote b c (l ++ extra) k)
    go (sign s k) = apart (sym (ap is_letter is.1) ∙ (begins_sign s b (l ++ extra) (sym k)).letter)

pub quoted_is_longest : (q : Quoted) (b : ℕ) (l v rest : List ℕ) → IsQuoted q (b ∷ l) v → IsLongest (b ∷ l) rest
quoted_is_longest quoteds.Str b l v rest h = str_longest b l v rest h
quoted_is_longest quoteds.Bytes b l v rest h = bytes_longest b l v rest h

pub character_is_longest : (b c : ℕ) (l rest : List ℕ) → IsCharacter (b ∷ l) c → IsLongest (b ∷ l) rest
character_is_longest b c l rest h extra others e form = go (shape_of b (l ++ extra) form)
  where
    is : b ≡ 39
    is = character_quote b c l h

    other : (q : Quoted) → QuotedFront q b (l ++ extra) → extra ≡ []
    other quoteds.Str k = other_byte b 39 34 refl is k
    other quoteds.Bytes k = other_byte b 39 66 refl is k.1

    go : Shape b (l ++ extra) → extra ≡ []
    go (words w all) = apart (sym w ∙ ap is_word is)
    go (quoted q w k) = other q (quoted_front q b (l ++ extra) w k)
    go (half k) = other_byte b 39 66 refl is (heads k)
    go (character d k) = character_longest b c d l extra rest others h k e
    go (sign s k) = apart (ap (λ (x : ℕ). eqb x 39) (sym is) ∙ (begins_sign s b (l ++ extra) (sym k)).quotes.1)
