-- The item at the front of a text is the token there, and says which refusal it is where there is none.
use Rattle.std.proofs.Common.{◌≡◌, ◌≢◌, ℕ, ℤ, suc, ◌+◌, Bool, true, false, ◌&&◌, eqb, List, [], ◌∷◌, ◌++◌, length, take, Option, Some, None}
use Rattle.std.proofs.Common.{refl, sym, ap, subst, ◌∙◌, arith}
use Rattle.std.proofs.lemmas.Bool.{eqb-true}
use Rattle.std.proofs.lemmas.List.{take_at}
use Rattle.std.specs.List.{prefix_len}
use Rattle.sz_lex.specs.declared.token.Kind.{Kind}
use Rattle.sz_lex.specs.declared.token.Kind.TheVariants as kinds
use Rattle.sz_lex.specs.declared.escape.Quoted.TheVariants as quoteds
use Rattle.sz_lex.specs.declared.word.Word.{Word}
use Rattle.sz_lex.specs.declared.sign.Sign.{Sign}
use Rattle.sz_lex.specs.declared.item.Item.TheVariants.{Lexeme}
use Rattle.sz_lex.specs.Classes.{is_blank, is_letter, is_digit, is_word}
use Rattle.sz_lex.specs.Words.{word_text}
use Rattle.sz_lex.specs.Signs.{sign_text}
use Rattle.sz_lex.specs.Numbers.{number_of}
use Rattle.sz_lex.specs.Literals.{IsQuoted, IsCharacter, plain, escaped}
use Rattle.sz_lex.specs.Tokens.{all_word, IsName, IsRun, IsLexeme, HasForm, name, run, token, opens, IsLongest, begins_literal}
use Rattle.sz_lex.specs.Lookup.{pair_sign, sign_at, word_of}
use Rattle.sz_lex.specs.Reading.{body_at, first, kind_of, word_kind, number_item, character_item, quoted_item, sign_item, literal_item, item_of, item}
use Rattle.sz_lex.proofs.LiteralLemmas.{none_some}
use Rattle.sz_lex.proofs.WordLemmas.{letter_no_blank, letter_no_hash, digit_no_blank, digit_no_hash, letter_no_digit, letter_no_quotes}
use Rattle.sz_lex.proofs.WordLemmas.{letter_word, digit_word, apart, heads, tails, nil_cons, and_parts, Stops, prefix_all, all_word_push}
use Rattle.sz_lex.proofs.WordLemmas.{word_again, word_is_name, word_spells, sign_of, sign_again, pair_text, no_pair_at_end, BeginsSign}
use Rattle.sz_lex.proofs.WordLemmas.{begins_sign}
use Rattle.sz_lex.proofs.FormLemmas.{opened, character_read, character_quote}

-- ---- what begins a literal

pub digit_begins : (b : ℕ) (bs : List ℕ) → is_digit b ≡ true → begins_literal (b ∷ bs) ≡ true
digit_begins b [] h = rw h refl
digit_begins b (c ∷ bs) h = rw h refl

pub quote_begins : (bs : List ℕ) → begins_literal (34 ∷ bs) ≡ true
quote_begins [] = refl
quote_begins (c ∷ bs) = refl

pub single_quote_begins : (bs : List ℕ) → begins_literal (39 ∷ bs) ≡ true
single_quote_begins [] = refl
single_quote_begins (c ∷ bs) = refl

-- a letter begins no literal, unless it is the B of bytes
pub letter_begins_none : (b : ℕ) (bs : List ℕ) → is_letter b ≡ true → ((t : List ℕ) → b ≡ 66 → bs ≡ 34 ∷ t → ⊥)
    → begins_literal (b ∷ bs) ≡ false
letter_begins_none b [] h no_b = let q = letter_no_quotes b h in rw (letter_no_digit b h, q.0, q.1) refl
letter_begins_none b (c ∷ bs) h no_b = go (eqb b 66) (eqb c 34) refl refl
  where
    none : (x : Bool) → (eqb b 66 && eqb c 34) ≡ false → begins_literal (b ∷ c ∷ bs) ≡ false
    none x e = let q = letter_no_quotes b h in rw (letter_no_digit b h, q.0, q.1, e) refl

    go : (x y : Bool) → eqb b 66 ≡ x → eqb c 34 ≡ y → begins_literal (b ∷ c ∷ bs) ≡ false
    go true true p q = absurd (no_b bs (eqb-true b 66 p) (ap (λ (x : ℕ). x ∷ bs) (eqb-true c 34 q)))
    go true false p q = none true (rw (p, q) refl)
    go false y p q = none true (rw p refl)

sign_begins_none : (b : ℕ) (bs : List ℕ) → BeginsSign b → begins_literal (b ∷ bs) ≡ false
sign_begins_none b [] h = rw (h.digit, h.quotes.0, h.quotes.1) refl
sign_begins_none b (c ∷ bs) h = let no_b : eqb b 66 ≡ false = go (eqb b 66) refl in
    rw (h.digit, h.quotes.0, h.quotes.1, no_b) refl
  where
    go : (x : Bool) → eqb b 66 ≡ x → eqb b 66 ≡ false
    go true p = apart (sym (ap is_letter (eqb-true b 66 p)) ∙ h.letter)
    go false p = p

-- what begins a literal without being a digit or a quote is the B of bytes
pub record OpensBytes (b : ℕ) (bs : List ℕ) : Type 0 where
  pub more : List ℕ
  pub first : b ≡ 66
  pub second : bs ≡ 34 ∷ more

pub opens_bytes : (b : ℕ) (bs : List ℕ) → begins_literal (b ∷ bs) ≡ true → is_digit b ≡ false → eqb b 34 ≡ false
    → eqb b 39 ≡ false → OpensBytes b bs
opens_bytes b [] h d q s = let no_more : false ≡ true = rw (d, q, s) at h in apart (sym no_more)
opens_bytes b (c ∷ bs) h d q s = let both : (eqb b 66 && eqb c 34) ≡ true = rw (d, q, s) at h in let p =
    and_parts (eqb b 66) (eqb c 34) both in record {
      more = bs;
      first = eqb-true b 66 p.0;
      second = ap (λ (x : ℕ). x ∷ bs) (eqb-true c 34 p.1);
    }

-- ---- the tests of an item, in their order

pub literal_case : (b : ℕ) (bs : List ℕ) → is_blank b ≡ false → eqb b 35 ≡ false → begins_literal (b ∷ bs) ≡ true
    → item_of b bs ≡ literal_item b bs
literal_case b bs e f g = rw (e, f, g) refl

letter_case : (b : ℕ) (bs : List ℕ) → is_letter b ≡ true → begins_literal (b ∷ bs) ≡ false
    → item_of b bs ≡ Lexeme (word_kind (take (prefix_len is_word (b ∷ bs)) (b ∷ bs))) (prefix_len is_word (b ∷ bs))
letter_case b bs h g = rw (letter_no_blank b h, letter_no_hash b h, g, h) refl

pub other_case : (b : ℕ) (bs : List ℕ) → is_blank b ≡ false → eqb b 35 ≡ false → begins_literal (b ∷ bs) ≡ false
    → is_letter b ≡ false → item_of b bs ≡ sign_item (sign_at b (first bs))
other_case b bs e f g h = rw (e, f, g, h) refl

digit_literal : (b : ℕ) (bs : List ℕ) → is_digit b ≡ true
    → literal_item b bs ≡ number_item (number_of (take (prefix_len is_word
    (b ∷ bs)) (b ∷ bs))) (prefix_len is_word (b ∷ bs))
digit_literal b bs h = rw h refl

-- ---- words

-- the longest of words is followed by no word's byte
stops_of : (l rest : List ℕ) → ((c : ℕ) → is_word c ≡ true → HasForm (l ++ c ∷ [])) → IsLongest l rest → Stops rest
unfolding Stops
stops_of l [] more longest = tt
stops_of l (c ∷ rest) more longest = go (is_word c) refl
  where
    go : (x : Bool) → is_word c ≡ x → is_word c ≡ false
    go true e = nil_cons (sym (longest (c ∷ []) rest refl (more c e)))
    go false e = e

no_quote_word : (t : List ℕ) → all_word (34 ∷ t) ≡ true → ⊥
no_quote_word t h = apart (sym (and_parts false (all_word t) h).0)

-- a longest name is not the B of bytes
not_opening : (b : ℕ) (l rest : List ℕ) → all_word l ≡ true → IsLongest (b ∷ l) rest → (t : List ℕ) → b ≡ 66
    → l ++ rest ≡ 34 ∷ t → ⊥
not_opening b [] rest all longest t is e =
    nil_cons (sym (longest (34 ∷ []) t e (opens (ap (λ (x : ℕ). x ∷ 34 ∷ []) is))))
not_opening b (d ∷ l) rest all longest t is e = no_quote_word l (ap (λ (x : ℕ). all_word (x ∷ l)) (sym (heads e)) ∙ all)

pub name_item : (b : ℕ) (l rest : List ℕ) → IsName (b ∷ l) → Stops rest
    → ((t : List ℕ) → b ≡ 66 → l ++ rest ≡ 34 ∷ t → ⊥)
    → item_of b (l ++ rest) ≡ Lexeme (word_kind (b ∷ l)) (suc (length l))
name_item b l rest h stops no_b =
    let n : prefix_len is_word (b ∷ (l ++ rest)) ≡ suc (length l) =
    prefix_all (b ∷ l) rest (rw (letter_word b h.0) h.1) stops in
    let t : take (suc (length l)) (b ∷ (l ++ rest)) ≡ b ∷ l = take_at (b ∷ l) rest (suc (length l)) refl in
    letter_case b (l ++ rest) h.0 (letter_begins_none b (l ++ rest) h.0 no_b)
    ∙ ap (λ m. Lexeme (word_kind (take m (b ∷ (l ++ rest)))) m) n
    ∙ ap (λ (x : List ℕ). Lexeme (word_kind x) (suc (length l))) t

word_item : (b : ℕ) (l rest : List ℕ) → IsName (b ∷ l) → IsLongest (b ∷ l) rest
    → item_of b (l ++ rest) ≡ Lexeme (word_kind (b ∷ l)) (suc (length l))
word_item b l rest h longest = name_item b l rest h (stops_of (b ∷ l) rest (λ c w. name (
  h.0,
  all_word_push l c h.1 w,
)) longest) (not_opening b l rest h.1 longest)

pub number_item_is : (b : ℕ) (l rest : List ℕ) → IsRun (b ∷ l) → Stops rest
    → item_of b (l ++ rest) ≡ number_item (number_of (b ∷ l)) (suc (length l))
number_item_is b l rest h stops =
    let n : prefix_len is_word (b ∷ (l ++ rest)) ≡ suc (length l) =
    prefix_all (b ∷ l) rest (rw (digit_word b h.0) h.1) stops in
    let t : take (suc (length l)) (b ∷ (l ++ rest)) ≡ b ∷ l = take_at (b ∷ l) rest (suc (length l)) refl in
    literal_case b (l ++ rest) (digit_no_blank b h.0) (digit_no_hash b h.0) (digit_begins b (l ++ rest) h.0)
    ∙ digit_literal b (l ++ rest) h.0
    ∙ ap (λ m. number_item (number_of (take m (b ∷ (l ++ rest)))) m) n
    ∙ ap (λ (x : List ℕ). number_item (number_of x) (suc (length l))) t

no_word_found : (text : List ℕ) → ((w : Word) → text ≢ word_text w) → word_of text ≡ None
no_word_found text h = go (word_of text) refl
  where
    go : (o : Option Word) → word_of text ≡ o → word_of text ≡ None
    go None e = e
    go (Some w) e = absurd (h w (sym (word_spells text w e)))

-- ---- signs

sign_here : (s : Sign) (b : ℕ) (l rest : List ℕ) → sign_of (b ∷ l) ≡ Some s → IsLongest (b ∷ l) rest
    → sign_at b (first (l ++ rest)) ≡ Some (s, suc (length l))
sign_here s b [] [] h longest = go (pair_sign b 0) refl
  where
    go : (o : Option Sign) → pair_sign b 0 ≡ o → sign_at b 0 ≡ Some (s, 1)
    go None e = rw (e, h) refl
    go (Some t) e = absurd (no_pair_at_end b t e)
sign_here s b [] (c ∷ rest) h longest = go (pair_sign b c) refl
  where
    go : (o : Option Sign) → pair_sign b c ≡ o → sign_at b c ≡ Some (s, 1)
    go None e = rw (e, h) refl
    go (Some t) e = nil_cons (sym (longest (c ∷ []) rest refl (token (kinds.Sign t) (sym (pair_text b c t e)))))
sign_here s b (c ∷ []) rest h longest = rw h refl
sign_here s b (c ∷ d ∷ l) rest h longest = none_some h

-- ---- a token is the item

pub no_empty : (k : Kind) → IsLexeme k [] → ⊥
no_empty kinds.Name h = h.0
no_empty (kinds.Word w) h = subst IsName (sym h) (word_is_name w)
no_empty (kinds.Number n) h = h.0
no_empty (kinds.Character c) h = empty h
  where
    empty : IsCharacter [] c → ⊥
    empty (plain a i e) = nil_cons e
    empty (escaped t i e) = nil_cons e
no_empty kinds.Str h = nil_cons h.1.spelled
no_empty kinds.Bytes h = nil_cons h.1.spelled
no_empty (kinds.Sign s) h = none_some (ap sign_of h ∙ sign_again s)

character_lexeme : (b c : ℕ) (l rest : List ℕ) → IsCharacter (b ∷ l) c
    → item_of b (l ++ rest) ≡ Lexeme (kinds.Character c) (suc (length l))
character_lexeme b c l rest h =
    let n : length l + 1 ≡ suc (length l) = omega arith in
    ap (λ (x : ℕ). item_of x (l ++ rest)) (character_quote b c l h)
    ∙ literal_case 39 (l ++ rest) refl refl (single_quote_begins (l ++ rest))
    ∙ ap character_item (character_read b c l rest h)
    ∙ ap (λ (m : ℕ). Lexeme (kinds.Character c) m) n

str_lexeme : (b : ℕ) (l v rest : List ℕ) → IsQuoted quoteds.Str (b ∷ l) v
    → item_of b (l ++ rest) ≡ Lexeme kinds.Str (suc (length l))
str_lexeme b l v rest h =
    let o = opened quoteds.Str (b ∷ l) v h in
    let n : 1 + length o.body ≡ suc (length l) = omega (arith, ap length o.spelled) in
    ap (λ (x : ℕ). item_of x (l ++ rest)) (heads o.spelled)
    ∙ literal_case 34 (l ++ rest) refl refl (quote_begins (l ++ rest))
    ∙ ap (λ (x : List ℕ). quoted_item quoteds.Str (body_at quoteds.Str 0 (x ++ rest))) (tails o.spelled)
    ∙ ap (quoted_item quoteds.Str) (o.read rest)
    ∙ ap (λ (m : ℕ). Lexeme kinds.Str m) n

bytes_lexeme : (b : ℕ) (l v rest : List ℕ) → IsQuoted quoteds.Bytes (b ∷ l) v
    → item_of b (l ++ rest) ≡ Lexeme kinds.Bytes (suc (length l))
bytes_lexeme b l v rest h =
    let o = opened quoteds.Bytes (b ∷ l) v h in
    let n : 2 + length o.body ≡ suc (length l) = omega (arith, ap length o.spelled) in
    ap (λ (x : ℕ). item_of x (l ++ rest)) (heads o.spelled)
    ∙ ap (λ (x : List ℕ). item_of 66 (x ++ rest)) (tails o.spelled)
    ∙ ap (quoted_item quoteds.Bytes) (o.read rest)
    ∙ ap (λ (m : ℕ). Lexeme kinds.Bytes m) n

sign_lexeme : (s : Sign) (b : ℕ) (l rest : List ℕ) → b ∷ l ≡ sign_text s → IsLongest (b ∷ l) rest
    → item_of b (l ++ rest) ≡ Lexeme (kinds.Sign s) (suc (length l))
sign_lexeme s b l rest h longest =
    let f = begins_sign s b l (sym h) in
    other_case b (l ++ rest) f.blank f.hash (sign_begins_none b (l ++ rest) f) f.letter
    ∙ ap sign_item (sign_here s b l rest (ap sign_of h ∙ sign_again s) longest)

lexeme_of : (k : Kind) (b : ℕ) (l rest : List ℕ) → IsLexeme k (b ∷ l) → IsLongest (b ∷ l) rest
    → item_of b (l ++ rest) ≡ Lexeme k (suc (length l))
lexeme_of kinds.Name b l rest h longest = word_item b l rest h.0 longest
    ∙ ap (λ (o : Option Word). Lexeme (kind_of o) (suc (length l))) (no_word_found (b ∷ l) h.1)
lexeme_of (kinds.Word w) b l rest h longest = word_item b l rest (subst IsName (sym h) (word_is_name w)) longest
    ∙ ap (λ (o : Option Word). Lexeme (kind_of o) (suc (length l))) (ap word_of h ∙ word_again w)
lexeme_of (kinds.Number n) b l rest h longest = number_item_is b l rest h.0 (stops_of (b ∷ l) rest (λ c w. run (
  h.0.0,
  all_word_push l c h.0.1 w,
)) longest) ∙ ap (λ (o : Option ℤ). number_item o (suc (length l))) h.1
lexeme_of (kinds.Character c) b l rest h longest = character_lexeme b c l rest h
lexeme_of kinds.Str b l rest h longest = str_lexeme b l h.0 rest h.1
lexeme_of kinds.Bytes b l rest h longest = bytes_lexeme b l h.0 rest h.1
lexeme_of (kinds.Sign s) b l rest h longest = sign_lexeme s b l rest h longest

-- a token at the front of a text is its item
pub token_item : (k : Kind) (l rest : List ℕ) → IsLexeme k l → IsLongest l rest → item (l ++ rest) ≡ Lexeme k (length l)
token_item k [] rest h longest = absurd (no_empty k h)
token_item k (b ∷ l) rest h longest = lexeme_of k b l rest h longest
