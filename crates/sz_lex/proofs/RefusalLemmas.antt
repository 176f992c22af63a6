-- What is refused at the front of a text, and how much stands there otherwise.
use Rattle.std.proofs.Common.{◌≡◌, ℕ, ℤ, pos, nat_lt, ◌*◌, ◌^◌, ◌+◌, ◌≤◌, Bool, true, false, cond, eqb, List, [], ◌∷◌, ◌++◌, length, Some}
use Rattle.std.proofs.Common.{None, refl, sym, ap, subst, ◌∙◌, arith}
use Rattle.std.proofs.lemmas.Bool.{eqb-true, lt-ltb}
use Rattle.std.proofs.lemmas.Bool.Decides.{nat_tests}
use Rattle.std.specs.List.{prefix_len}
use Rattle.std.specs.Option.{option_map}
use Rattle.sz_lex.specs.declared.token.Kind.{Kind}
use Rattle.sz_lex.specs.declared.token.Kind.TheVariants as kinds
use Rattle.sz_lex.specs.declared.item.Item.TheVariants.{Gap, Lexeme, BadChar, BadLiteral}
use Rattle.sz_lex.specs.Classes.{is_blank, is_letter, is_digit}
use Rattle.sz_lex.specs.Numbers.{number_of, below}
use Rattle.std.specs.Char.{digit_value}
use Rattle.std.proofs.lemmas.Str.{digit_value_digit}
use Rattle.sz_lex.specs.Literals.{escaped}
use Rattle.sz_lex.specs.Tokens.{IsLexeme, IsLongest, begins_literal}
use Rattle.sz_lex.specs.Reading.{word_kind, item_of, item, not_newline}
use Rattle.sz_lex.proofs.WordLemmas.{apart, heads}
use Rattle.sz_lex.proofs.ItemLemmas.{opens_bytes, OpensBytes, no_empty, token_item}
use Rattle.sz_lex.proofs.FrontLemmas.{At, at_is, word_lexeme, BeginsNone, Front, blank, comment, lexeme, bad_char, bad_literal, front_of}

-- ---- refusals

blank_no_literal : (b : ℕ) → is_blank b ≡ true
    → (is_digit b ≡ false) × (eqb b 34 ≡ false) × (eqb b 39 ≡ false) × (eqb b 66 ≡ false)
blank_no_literal b h =
    (grind (arith, nat_tests), grind (arith, nat_tests), grind (arith, nat_tests), grind (arith, nat_tests))

blank_begins_none : (b : ℕ) (bs : List ℕ) → is_blank b ≡ true → begins_literal (b ∷ bs) ≡ false
blank_begins_none b [] h = let t = blank_no_literal b h in rw (t.0, t.1, t.2) refl
blank_begins_none b (c ∷ bs) h = let t = blank_no_literal b h in rw (t.0, t.1, t.2, t.3) refl

hash_begins_none : (bs : List ℕ) → begins_literal (35 ∷ bs) ≡ false
hash_begins_none [] = refl
hash_begins_none (c ∷ bs) = refl

-- a token that begins with this byte
record Begins (b : ℕ) : Type 0 where
  k : Kind
  l : List ℕ
  spelled : IsLexeme k (b ∷ l)

digit_range : (b : ℕ) → is_digit b ≡ true → (48 ≤ b) × (b ≤ 57)
digit_range b h = (grind (arith, nat_tests), grind (arith, nat_tests))

digit_value_is : (b : ℕ) → is_digit b ≡ true → (v : ℤ) × (number_of (b ∷ []) ≡ Some v)
digit_value_is b h =
    let value = digit_value_digit b (digit_range b h) in
    let low : nat_lt (digit_value b) 10 ≡ true =
    lt-ltb (digit_value b) 10 (omega (arith, value, (digit_range b h).1)) in
    let fits : nat_lt (0 * 10 + digit_value b) (2 ^ 63) ≡ true =
    lt-ltb (0 * 10 + digit_value b) (2 ^ 63) (omega (arith, value, (digit_range b h).1)) in
    (pos (0 * 10 + digit_value b), step (digit_value b) low fits)
  where
    step : (d : ℕ) → nat_lt d 10 ≡ true → nat_lt (0 * 10 + d) (2 ^ 63) ≡ true
        → option_map pos (below (2 ^ 63) (cond (nat_lt d 10) (Some (0 * 10 + d)) None)) ≡ Some (pos (0 * 10 + d))
    step d low fits = rw low (rw fits refl)

begins_some : (b : ℕ) (bs : List ℕ) → begins_literal (b ∷ bs) ≡ true → Begins b
begins_some b bs h = go (is_digit b) (eqb b 39) (eqb b 34) refl refl refl
  where
    digit : is_digit b ≡ true → Begins b
    digit e = let v = digit_value_is b e in record { k = kinds.Number v.0; l = []; spelled = ((e, refl), v.1) }

    bytes : OpensBytes b bs → Begins b
    bytes o = record { k = word_kind (b ∷ []); l = []; spelled = word_lexeme (b ∷ []) (ap is_letter o.first, refl) }

    go : (x y z : Bool) → is_digit b ≡ x → eqb b 39 ≡ y → eqb b 34 ≡ z → Begins b
    go true y z e f g = digit e
    go false true z e f g = subst Begins (sym (eqb-true b 39 f)) (record {
      k = kinds.Character 10;
      l =
          92 ∷ 110 ∷ 39 ∷ [];
      spelled = escaped (110 ∷ []) refl refl;
    })
    go false false true e f g = subst Begins (sym (eqb-true b 34 g)) (record {
      k = kinds.Str;
      l = 34 ∷ [];
      spelled =
          ([], record { parts = []; spelled = refl; stands = refl });
    })
    go false false false e f g = bytes (opens_bytes b bs h e g f)

-- a byte with which no token begins is a bad byte
pub bad_char_item : (b : ℕ) (bs : List ℕ) → BeginsNone b → item_of b bs ≡ BadChar
bad_char_item b bs h = go (front_of b bs)
  where
    begun : Begins b → ⊥
    begun x = h.none x.k x.l x.spelled

    token_begins : (k : Kind) (l rest : List ℕ) → b ∷ bs ≡ l ++ rest → IsLexeme k l → ⊥
    token_begins k [] rest e s = no_empty k s
    token_begins k (c ∷ l) rest e s = h.none k l (subst (λ (x : ℕ). IsLexeme k (x ∷ l)) (sym (heads e)) s)

    go : Front b bs → item_of b bs ≡ BadChar
    go (blank e) = apart (sym e ∙ h.blank)
    go (comment e f) = apart (sym f ∙ h.hash)
    go (lexeme k n e a) = absurd (token_begins k a.lexeme a.rest a.parts a.spelled)
    go (bad_char e x) = e
    go (bad_literal e x) = absurd (begun (begins_some b bs x))

-- the beginning of a literal where no token is, is a bad literal
pub bad_literal_item : (b : ℕ) (bs : List ℕ) → begins_literal (b ∷ bs) ≡ true → ((k : Kind) (l others : List ℕ)
    → b ∷ bs ≡ l ++ others → IsLexeme k l → IsLongest l others → ⊥) → item_of b bs ≡ BadLiteral
bad_literal_item b bs begins none = go (front_of b bs)
  where
    begun : BeginsNone b → Begins b → ⊥
    begun h x = h.none x.k x.l x.spelled

    go : Front b bs → item_of b bs ≡ BadLiteral
    go (blank e) = apart (sym begins ∙ blank_begins_none b bs e)
    go (comment e f) =
        apart (sym begins ∙ ap (λ (x : ℕ). begins_literal (x ∷ bs)) (eqb-true b 35 f) ∙ hash_begins_none bs)
    go (lexeme k n e a) = absurd (none k a.lexeme a.rest a.parts a.spelled a.longest)
    go (bad_char e x) = absurd (begun x (begins_some b bs begins))
    go (bad_literal e x) = e

-- and where there is a bad literal, no token is
pub bad_literal_none : (bs : List ℕ) → item bs ≡ BadLiteral → (k : Kind) (l others : List ℕ)
    → bs ≡ l ++ others → IsLexeme k l → IsLongest l others → ⊥
bad_literal_none bs bad k l others e h longest = let both : BadLiteral ≡ Lexeme k (length l) = sym bad ∙ ap item e
    ∙ token_item k l others h longest in absurd cc

-- ---- how much stands there

pub gap_positive : (text : List ℕ) (n : ℕ) → Gap n ≡ item text → 1 ≤ n
gap_positive [] n e = absurd cc
gap_positive (b ∷ bs) n e = go (front_of b bs)
  where
    go : Front b bs → 1 ≤ n
    go (blank f) = let one : Gap n ≡ Gap 1 = e ∙ rw f refl in let same : n ≡ 1 = cc in omega (arith, same)
    go (comment f g) = let more : Gap n ≡ Gap (prefix_len not_newline bs + 1) = e
        ∙ rw (f, g) refl in let same : n ≡ prefix_len not_newline bs + 1 = cc in omega (arith, same)
    go (lexeme k m f a) = let both : Gap n ≡ Lexeme k m = e ∙ f in absurd cc
    go (bad_char f x) = let both : Gap n ≡ BadChar = e ∙ f in absurd cc
    go (bad_literal f x) = let both : Gap n ≡ BadLiteral = e ∙ f in absurd cc

positive : (k : Kind) (l : List ℕ) → IsLexeme k l → 1 ≤ length l
positive k [] h = absurd (no_empty k h)
positive k (b ∷ l) h = omega arith

-- a token that the item tells
pub lexeme_here : (text : List ℕ) (k : Kind) (n : ℕ) → Lexeme k n ≡ item text → At k n text
lexeme_here [] k n e = absurd cc
lexeme_here (b ∷ bs) k n e = go (front_of b bs)
  where
    go : Front b bs → At k n (b ∷ bs)
    go (blank f) = let both : Lexeme k n ≡ Gap 1 = e ∙ rw f refl in absurd cc
    go (comment f g) = let both : Lexeme k n ≡ Gap (prefix_len not_newline bs + 1) = e ∙ rw (f, g) refl in absurd cc
    go (lexeme j m f a) = at_is j k m n (b ∷ bs) (sym f ∙ sym e) a
    go (bad_char f x) = let both : Lexeme k n ≡ BadChar = e ∙ f in absurd cc
    go (bad_literal f x) = let both : Lexeme k n ≡ BadLiteral = e ∙ f in absurd cc

pub lexeme_positive : (text : List ℕ) (k : Kind) (n : ℕ) → Lexeme k n ≡ item text → 1 ≤ n
lexeme_positive text k n e = let a = lexeme_here text k n e in omega (arith, a.len, positive k a.lexeme a.spelled)
