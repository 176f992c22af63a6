-- Words, runs and signs at the front of a text.
use Rattle.std.proofs.Common.{◌≡◌, ℕ, ◌+◌, ◌<◌, Bool, true, false, cond, not, ◌||◌, ◌&&◌, eqb, List, [], ◌∷◌, ◌++◌, length, drop, Option}
use Rattle.std.proofs.Common.{Some, None, refl, sym, ap, subst, ◌∙◌, arith, find, is_some, get_or}
use Rattle.std.specs.List.{prefix_len}
use Rattle.std.specs.Str.{bytes_eq}
use Rattle.std.proofs.lemmas.Bool.{eqb-true}
use Rattle.std.proofs.lemmas.Slice.Eq.{bytes_eq-Decides}
use Rattle.std.proofs.lemmas.Bool.Decides.{nat_tests}
use Rattle.std.proofs.lemmas.List.{at_drop_more}
use Rattle.sz_lex.specs.declared.word.Word.{Word}
use Rattle.sz_lex.specs.declared.word.Word.TheVariants as words
use Rattle.sz_lex.specs.declared.sign.Sign.{Sign}
use Rattle.sz_lex.specs.declared.sign.Sign.TheVariants as signs
use Rattle.sz_lex.specs.Classes.{is_blank, is_letter, is_digit, is_word}
use Rattle.sz_lex.specs.Words.{word_text}
use Rattle.sz_lex.specs.Signs.{sign_text}
use Rattle.sz_lex.specs.Tokens.{all_word, IsName}
use Rattle.sz_lex.specs.Lookup.{all_words, word_of, pair_sign, single_sign}
use Rattle.sz_lex.proofs.LiteralLemmas.{none_some}

-- ---- classes of bytes

pub letter_no_blank : (b : ℕ) → is_letter b ≡ true → is_blank b ≡ false
letter_no_blank b h = grind (arith, nat_tests)

pub letter_no_hash : (b : ℕ) → is_letter b ≡ true → eqb b 35 ≡ false
letter_no_hash b h = grind (arith, nat_tests)

pub digit_no_blank : (b : ℕ) → is_digit b ≡ true → is_blank b ≡ false
digit_no_blank b h = grind (arith, nat_tests)

pub digit_no_hash : (b : ℕ) → is_digit b ≡ true → eqb b 35 ≡ false
digit_no_hash b h = grind (arith, nat_tests)

pub letter_no_digit : (b : ℕ) → is_letter b ≡ true → is_digit b ≡ false
letter_no_digit b h = grind (arith, nat_tests)

pub digit_no_letter : (b : ℕ) → is_digit b ≡ true → is_letter b ≡ false
digit_no_letter b h = grind (arith, nat_tests)

pub letter_no_quotes : (b : ℕ) → is_letter b ≡ true → (eqb b 34 ≡ false) × (eqb b 39 ≡ false)
letter_no_quotes b h = (grind (arith, nat_tests), grind (arith, nat_tests))

pub letter_word : (b : ℕ) → is_letter b ≡ true → is_word b ≡ true
letter_word b h = rw h refl

pub digit_word : (b : ℕ) → is_digit b ≡ true → is_word b ≡ true
digit_word b h = rw (digit_no_letter b h, h) refl

pub and_parts : (x y : Bool) → (x && y) ≡ true → (x ≡ true) × (y ≡ true)
and_parts true y h = (refl, h)
and_parts false y h = absurd cc

pub apart : {B : Type 0} → true ≡ false → B
apart e = absurd cc

pub heads : {a b : ℕ} {xs ys : List ℕ} → a ∷ xs ≡ b ∷ ys → a ≡ b
heads e = cc

pub tails : {a b : ℕ} {xs ys : List ℕ} → a ∷ xs ≡ b ∷ ys → xs ≡ ys
tails e = cc

pub nil_cons : {b : ℕ} {bs : List ℕ} {B : Type 0} → [] ≡ b ∷ bs → B
nil_cons e = absurd cc

-- ---- runs of letters, digits and _

-- what follows doesn't go on with a word
unfoldable pub Stops : List ℕ → Type 0
Stops [] = Unit {0}
Stops (b ∷ bs) = is_word b ≡ false

pub prefix_all : (l rest : List ℕ) → all_word l ≡ true → Stops rest → prefix_len is_word (l ++ rest) ≡ length l
unfolding Stops
prefix_all [] [] h s = refl
prefix_all [] (c ∷ rest) h s = rw s refl
prefix_all (b ∷ l) rest h s = let p = and_parts (is_word b) (all_word l) h in
    rw p.0 (omega (arith, prefix_all l rest p.1 s))

-- a run at the front, and what stops it
pub record RunAt (bs : List ℕ) (n : ℕ) : Type 0 where
  pub run : List ℕ
  pub rest : List ℕ
  pub parts : bs ≡ run ++ rest
  pub len : n ≡ length run
  pub words : all_word run ≡ true
  pub stops : Stops rest

pub run_at : (bs : List ℕ) → RunAt bs (prefix_len is_word bs)
unfolding Stops
run_at [] = record { run = []; rest = []; parts = refl; len = refl; words = refl; stops = tt }
run_at (b ∷ bs) = go (is_word b) refl (run_at bs)
  where
    go : (x : Bool) → is_word b ≡ x → RunAt bs (prefix_len is_word bs) → RunAt (b ∷ bs) (prefix_len is_word (b ∷ bs))
    go true e r = record {
      run = b ∷ r.run;
      rest = r.rest;
      parts = ap (λ (t : List ℕ). b ∷ t) r.parts;
      len =
          rw e (omega (arith, r.len));
      words = rw e r.words;
      stops = r.stops;
    }
    go false e r = record { run = []; rest = b ∷ bs; parts = refl; len = rw e refl; words = refl; stops = e }

pub all_word_push : (l : List ℕ) (c : ℕ) → all_word l ≡ true → is_word c ≡ true → all_word (l ++ c ∷ []) ≡ true
all_word_push [] c h e = rw e refl
all_word_push (b ∷ l) c h e = let p = and_parts (is_word b) (all_word l) h in rw p.0 (all_word_push l c p.1 e)

-- what stops a run is not in a longer one
pub all_word_end : (l extra others rest : List ℕ) → Stops rest → rest ≡ extra ++ others
    → all_word (l ++ extra) ≡ true → extra ≡ []
unfolding Stops
all_word_end l [] others rest s e h = refl
all_word_end [] (c ∷ extra) others [] s e h = nil_cons e
all_word_end [] (c ∷ extra) others (d ∷ rest) s e h = let p = and_parts (is_word c) (all_word extra) h in apart (sym p.0
    ∙ ap is_word (sym (heads e)) ∙ s)
all_word_end (b ∷ l) (c ∷ extra) others rest s e h = let p =
    and_parts (is_word b) (all_word (l ++ c ∷ extra)) h in all_word_end l (c ∷ extra) others rest s e p.1

-- ---- reserved words

-- each reserved word is found by its spelling
pub word_again : (w : Word) → word_of (word_text w) ≡ Some w
word_again w = elim w as (λ (w : Word). word_of (word_text w) ≡ Some w) [ words.All ↦ refl | _ ↦ refl ]

-- a name's form, as a test
abbrev is_name : List ℕ → Bool
is_name [] = false
is_name (b ∷ bs) = is_letter b && all_word bs

name_is : (l : List ℕ) → is_name l ≡ true → IsName l
name_is [] h = absurd cc
name_is (b ∷ bs) h = and_parts (is_letter b) (all_word bs) h

pub word_is_name : (w : Word) → IsName (word_text w)
word_is_name w =
    name_is (word_text w) (elim w as (λ (w : Word). is_name (word_text w) ≡ true) [ words.All ↦ refl | _ ↦ refl ])

-- what is found is spelled so
found_spells : (ws : List Word) (text : List ℕ) (w : Word)
    → find (λ (w : Word). bytes_eq (word_text w) text) ws ≡ Some w
    → bytes_eq (word_text w) text ≡ true
found_spells [] text w h = none_some h
found_spells (v ∷ ws) text w h = go (bytes_eq (word_text v) text) refl (found_spells ws text w)
  where
    go : (x : Bool) → bytes_eq (word_text v) text ≡ x → (find (λ (w : Word). bytes_eq (word_text w) text) ws ≡ Some w
        → bytes_eq (word_text w) text ≡ true) → bytes_eq (word_text w) text ≡ true
    go true e again = let is : Some v ≡ Some w = rw e at h in let same : v ≡ w = cc in rw (← same) e
    go false e again = again (rw e at h)

pub word_spells : (text : List ℕ) (w : Word) → word_of text ≡ Some w → word_text w ≡ text
word_spells text w e = (bytes_eq-Decides (word_text w) text).0 (found_spells all_words text w e)

-- the word at i, or a later one
pub found_word : (ws : List Word) (i : ℕ) (d : Word) (text : List ℕ) → i < length ws
    → bytes_eq (word_text (get_or ws i d)) text ≡ true
    → find (λ (w : Word). bytes_eq (word_text w) text) (drop i ws) ≡ Some (get_or ws i d)
found_word ws i d text lt e = at_drop_more (find (λ (w : Word). bytes_eq (word_text w) text)) ws i d lt ∙ rw e refl

pub passed_word : (ws : List Word) (i : ℕ) (d : Word) (text : List ℕ) → i < length ws
    → bytes_eq (word_text (get_or ws i d)) text ≡ false
    → find (λ (w : Word). bytes_eq (word_text w) text) (drop i ws) ≡ find (λ
    (w : Word). bytes_eq (word_text w) text) (drop (i + 1) ws)
passed_word ws i d text lt e = at_drop_more (find (λ (w : Word). bytes_eq (word_text w) text)) ws i d lt ∙ rw e refl

-- ---- signs

-- the sign that these bytes are
abbrev pub sign_of : List ℕ → Option Sign
sign_of [] = None
sign_of (a ∷ []) = single_sign a
sign_of (a ∷ b ∷ []) = pair_sign a b
sign_of _ = None

pub sign_again : (s : Sign) → sign_of (sign_text s) ≡ Some s
sign_again s = elim s as (λ (s : Sign). sign_of (sign_text s) ≡ Some s) [ signs.Arrow ↦ refl | _ ↦ refl ]

-- a byte that begins nothing but signs
abbrev is_sign_byte : ℕ → Bool
is_sign_byte b = not (is_blank b) && (not (eqb b 35) && (not (is_word b) && (not (eqb b 34) && not (eqb b 39))))

abbrev signs_alone : List ℕ → Bool
signs_alone [] = false
signs_alone (b ∷ bs) = is_sign_byte b && is_some (single_sign b)

sign_begins : (s : Sign) → signs_alone (sign_text s) ≡ true
sign_begins s = elim s as (λ (s : Sign). signs_alone (sign_text s) ≡ true) [ signs.Arrow ↦ refl | _ ↦ refl ]

-- the sign, if there is one, is spelled so
abbrev Spells : Option Sign → List ℕ → Type 0
Spells None l = Unit {0}
Spells (Some s) l = sign_text s ≡ l

test : (x : Bool) (o p : Option Sign) (l : List ℕ) → (x ≡ true → Spells o l) → Spells p l → Spells (cond x o p) l
test true o p l h k = h refl
test false o p l h k = k

pair_is : (a b c d : ℕ) (s : Sign) → sign_text s ≡ c ∷ d ∷ [] → (eqb a c && eqb b d) ≡ true → sign_text s ≡ a ∷ b ∷ []
pair_is a b c d s e h = let p = and_parts (eqb a c) (eqb b d) h in rw (eqb-true a c p.0, eqb-true b d p.1) e

single_is : (a c : ℕ) (s : Sign) → sign_text s ≡ c ∷ [] → eqb a c ≡ true → sign_text s ≡ a ∷ []
single_is a c s e h = rw (eqb-true a c h) e

pair_spells : (a b : ℕ) → Spells (pair_sign a b) (a ∷ b ∷ [])
pair_spells a b =
    test _ _ _ _ (pair_is a b 60 45 signs.Arrow refl)
    (test _ _ _ _ (pair_is a b 60 61 signs.LessEqual refl)
    (test _ _ _ _ (pair_is a b 60 60 signs.ShiftLeft refl)
    (test _ _ _ _ (pair_is a b 62 61 signs.GreaterEqual refl)
    (test _ _ _ _ (pair_is a b 62 62 signs.ShiftRight refl)
    (test _ _ _ _ (pair_is a b 61 61 signs.EqualEqual refl)
    (test _ _ _ _ (pair_is a b 33 61 signs.NotEqual refl)
    (test _ _ _ _ (pair_is a b 38 38 signs.AndAnd refl)
    (test _ _ _ _ (pair_is a b 124 124 signs.OrOr refl)
    (test _ _ _ _ (pair_is a b 43 43 signs.Increment refl)
    (test _ _ _ _ (pair_is a b 45 45 signs.Decrement refl)
    (test _ _ _ _ (pair_is a b 58 61 signs.Define refl)
    tt)))))))))))

single_spells : (a : ℕ) → Spells (single_sign a) (a ∷ [])
single_spells a =
    test _ _ _ _ (single_is a 60 signs.Less refl)
    (test _ _ _ _ (single_is a 62 signs.Greater refl)
    (test _ _ _ _ (single_is a 61 signs.Assign refl)
    (test _ _ _ _ (single_is a 33 signs.Not refl)
    (test _ _ _ _ (single_is a 38 signs.And refl)
    (test _ _ _ _ (single_is a 124 signs.Or refl)
    (test _ _ _ _ (single_is a 43 signs.Plus refl)
    (test _ _ _ _ (single_is a 45 signs.Minus refl)
    (test _ _ _ _ (single_is a 58 signs.Colon refl)
    (test _ _ _ _ (single_is a 42 signs.Star refl)
    (test _ _ _ _ (single_is a 47 signs.Slash refl)
    (test _ _ _ _ (single_is a 37 signs.Percent refl)
    (test _ _ _ _ (single_is a 94 signs.Caret refl)
    (test _ _ _ _ (single_is a 126 signs.Tilde refl)
    (test _ _ _ _ (single_is a 40 signs.OpenParen refl)
    (test _ _ _ _ (single_is a 41 signs.CloseParen refl)
    (test _ _ _ _ (single_is a 91 signs.OpenBracket refl)
    (test _ _ _ _ (single_is a 93 signs.CloseBracket refl)
    (test _ _ _ _ (single_is a 123 signs.OpenBrace refl)
    (test _ _ _ _ (single_is a 125 signs.CloseBrace refl)
    (test _ _ _ _ (single_is a 44 signs.Comma refl)
    (test _ _ _ _ (single_is a 59 signs.Semicolon refl)
    (test _ _ _ _ (single_is a 46 signs.Dot refl)
    (test _ _ _ _ (single_is a 64 signs.At refl)
    tt)))))))))))))))))))))))

-- what is found is spelled so
pub pair_text : (a b : ℕ) (s : Sign) → pair_sign a b ≡ Some s → sign_text s ≡ a ∷ b ∷ []
pair_text a b s e = subst (λ (o : Option Sign). Spells o (a ∷ b ∷ [])) e (pair_spells a b)

pub single_text : (a : ℕ) (s : Sign) → single_sign a ≡ Some s → sign_text s ≡ a ∷ []
single_text a s e = subst (λ (o : Option Sign). Spells o (a ∷ [])) e (single_spells a)

-- no sign has a byte 0
abbrev no_zero : List ℕ → Bool
no_zero [] = true
no_zero (b ∷ bs) = not (eqb b 0) && no_zero bs

sign_no_zero : (s : Sign) → no_zero (sign_text s) ≡ true
sign_no_zero s = elim s as (λ (s : Sign). no_zero (sign_text s) ≡ true) [ signs.Arrow ↦ refl | _ ↦ refl ]

pub no_pair_at_end : (a : ℕ) (s : Sign) → pair_sign a 0 ≡ Some s → ⊥
no_pair_at_end a s e =
    let no : (not (eqb a 0) && false) ≡ true = ap no_zero (sym (pair_text a 0 s e)) ∙ sign_no_zero s in
    apart (sym (and_parts (not (eqb a 0)) false no).1)

-- the first byte of a sign is a sign, and begins nothing but signs
pub record BeginsSign (b : ℕ) : Type 0 where
  pub blank : is_blank b ≡ false
  pub hash : eqb b 35 ≡ false
  pub letter : is_letter b ≡ false
  pub digit : is_digit b ≡ false
  pub quotes : (eqb b 34 ≡ false) × (eqb b 39 ≡ false)
  pub single : (s : Sign) × (single_sign b ≡ Some s)

not_true : (x : Bool) → not x ≡ true → x ≡ false
not_true true h = absurd cc
not_true false h = refl

or_false : (x y : Bool) → (x || y) ≡ false → (x ≡ false) × (y ≡ false)
or_false true y h = absurd cc
or_false false y h = (refl, h)

some_sign : (o : Option Sign) → is_some o ≡ true → (s : Sign) × (o ≡ Some s)
some_sign None h = absurd cc
some_sign (Some s) h = (s, refl)

pub begins_sign : (s : Sign) (b : ℕ) (bs : List ℕ) → sign_text s ≡ b ∷ bs → BeginsSign b
begins_sign s b bs e =
    let all : signs_alone (b ∷ bs) ≡ true = ap signs_alone (sym e) ∙ sign_begins s in
    let p = and_parts (is_sign_byte b) (is_some (single_sign b)) all in
    let q = and_parts (not (is_blank b)) _ p.0 in
    let r = and_parts (not (eqb b 35)) _ q.1 in
    let t = and_parts (not (is_word b)) _ r.1 in
    let u = and_parts (not (eqb b 34)) (not (eqb b 39)) t.1 in
    let w = or_false (is_letter b) (is_digit b) (not_true _ t.0) in
    record {
      blank = not_true _ q.0;
      hash = not_true _ r.0;
      letter = w.0;
      digit = w.1;
      quotes =
          (not_true _ u.0, not_true _ u.1);
      single = some_sign (single_sign b) p.1;
    }
