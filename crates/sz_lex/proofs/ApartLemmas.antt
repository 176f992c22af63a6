-- Tokens that are written apart are read as they were written.
use Rattle.std.proofs.Common.{◌≡◌, ◌⊎◌, ℕ, ◌+◌, Bool, true, false, not, ◌&&◌, ◌||◌, eqb, List, [], ◌∷◌, ◌++◌, length, take, drop, map, refl}
use Rattle.std.proofs.Common.{sym, ap, subst, ◌∙◌, append_assoc, inl, inr, arith}
use Rattle.std.proofs.lemmas.Bool.Decides.{nat_tests}
use Rattle.std.proofs.lemmas.List.{length-append, take_at, drop_at}
use Rattle.sz_types.specs.declared.place.Place.{Place}
use Rattle.sz_lex.specs.declared.token.Token.{Token}
use Rattle.sz_lex.specs.declared.token.Kind.{Kind}
use Rattle.sz_lex.specs.declared.token.Kind.TheVariants as kinds
use Rattle.sz_lex.specs.declared.sign.Sign.{Sign}
use Rattle.sz_lex.specs.declared.sign.Sign.TheVariants as signs
use Rattle.sz_lex.specs.Classes.{is_blank, is_word}
use Rattle.sz_lex.specs.Signs.{sign_text}
use Rattle.sz_lex.specs.Tokens.{all_word, IsName, IsLexeme, IsLongest, later, first_place, TokensThen, Nothing, HasTokens}
use Rattle.sz_lex.specs.Laws.{Spelled, BeginsApart, IsWrittenApart, spelled_in, WrittenApartIsRead, BlanksMeanNothing}
use Rattle.sz_lex.proofs.WordLemmas.{apart, heads, nil_cons, and_parts, letter_word, digit_word, Stops, word_is_name, begins_sign}
use Rattle.sz_lex.proofs.FormLemmas.{words_longest, sign_form, quoted_is_longest, character_is_longest}
use Rattle.sz_lex.proofs.ItemLemmas.{no_empty}
use Rattle.sz_lex.proofs.LawLemmas.{later-append, one_list}

-- ---- a token before a blank or a comment is the longest

blank_no_word : (b : ℕ) → is_blank b ≡ true → is_word b ≡ false
blank_no_word b h = grind (arith, nat_tests)

hash_no_word : (b : ℕ) → eqb b 35 ≡ true → is_word b ≡ false
hash_no_word b h = grind (arith, nat_tests)

blank_no_quote : (b : ℕ) → is_blank b ≡ true → b ≡ 34 → ⊥
blank_no_quote b h e = apart (sym h ∙ ap is_blank e)

either : (x y : Bool) → (x || y) ≡ true → (x ≡ true) ⊎ (y ≡ true)
either true y h = inl refl
either false y h = inr h

stops : (rest : List ℕ) → BeginsApart rest → Stops rest
unfolding Stops
stops [] h = tt
stops (b ∷ rest) h = go (either (is_blank b) (eqb b 35) h)
  where
    go : (is_blank b ≡ true) ⊎ (eqb b 35 ≡ true) → is_word b ≡ false
    go (inl e) = blank_no_word b e
    go (inr e) = hash_no_word b e

no_quote : (rest t : List ℕ) → BeginsApart rest → rest ≡ 34 ∷ t → ⊥
no_quote [] t h e = nil_cons e
no_quote (b ∷ rest) t h e = go (either (is_blank b) (eqb b 35) h)
  where
    go : (is_blank b ≡ true) ⊎ (eqb b 35 ≡ true) → ⊥
    go (inl f) = blank_no_quote b f (heads e)
    go (inr f) = apart (sym f ∙ ap (λ (x : ℕ). eqb x 35) (heads e))

-- no sign holds a blank or #
abbrev no_gap : List ℕ → Bool
no_gap [] = true
no_gap (b ∷ bs) = not (is_blank b || eqb b 35) && no_gap bs

sign_no_gap : (s : Sign) → no_gap (sign_text s) ≡ true
sign_no_gap s = elim s as (λ (s : Sign). no_gap (sign_text s) ≡ true) [ signs.Arrow ↦ refl | _ ↦ refl ]

no_gap_inside : (l : List ℕ) (c : ℕ) (more : List ℕ) → no_gap (l ++ (c ∷ more)) ≡ true
    → (is_blank c || eqb c 35) ≡ true → ⊥
no_gap_inside [] c more h g = let p = and_parts (not (is_blank c || eqb c 35)) (no_gap more) h in
    apart (sym (sym (ap not g) ∙ p.0))
no_gap_inside (b ∷ l) c more h g =
    no_gap_inside l c more (and_parts (not (is_blank b || eqb b 35)) (no_gap (l ++ (c ∷ more))) h).1 g

sign_apart : (s : Sign) (b : ℕ) (l rest : List ℕ) → b ∷ l ≡ sign_text s → BeginsApart rest → IsLongest (b ∷ l) rest
sign_apart s b l rest h begins [] others e form = refl
sign_apart s b l [] h begins (c ∷ extra) others e form = nil_cons e
sign_apart s b l (d ∷ rest) h begins (c ∷ extra) others e form =
    let t = sign_form b (l ++ (c ∷ extra)) (begins_sign s b l (sym h)) form in
    absurd (no_gap_inside (b ∷ l) c extra (ap no_gap t.1 ∙ sign_no_gap t.0)
    (ap (λ (x : ℕ). is_blank x || eqb x 35) (sym (heads e)) ∙ begins))

word_apart : (b : ℕ) (l rest : List ℕ) → is_word b ≡ true → all_word l ≡ true → BeginsApart rest
    → IsLongest (b ∷ l) rest
word_apart b l rest w all begins = words_longest b l rest w (stops rest begins) (opening l all)
  where
    opening : (l : List ℕ) → all_word l ≡ true → (t : List ℕ) → b ≡ 66 → l ++ rest ≡ 34 ∷ t → ⊥
    opening [] all t is e = no_quote rest t begins e
    opening (d ∷ l) all t is e = apart (sym (and_parts (is_word d) (all_word l) all).0 ∙ ap is_word (heads e))

name_apart : (b : ℕ) (l rest : List ℕ) → IsName (b ∷ l) → BeginsApart rest → IsLongest (b ∷ l) rest
name_apart b l rest h begins = word_apart b l rest (letter_word b h.0) h.1 begins

longest_apart : (k : Kind) (b : ℕ) (l rest : List ℕ) → IsLexeme k (b ∷ l) → BeginsApart rest → IsLongest (b ∷ l) rest
longest_apart kinds.Name b l rest h begins = name_apart b l rest h.0 begins
longest_apart (kinds.Word w) b l rest h begins = name_apart b l rest (subst IsName (sym h) (word_is_name w)) begins
longest_apart (kinds.Number n) b l rest h begins = word_apart b l rest (digit_word b h.0.0) h.0.1 begins
longest_apart (kinds.Character c) b l rest h begins = character_is_longest b c l rest h
longest_apart kinds.Str b l rest h begins = quoted_is_longest _ b l h.0 rest h.1
longest_apart kinds.Bytes b l rest h begins = quoted_is_longest _ b l h.0 rest h.1
longest_apart (kinds.Sign s) b l rest h begins = sign_apart s b l rest h begins

lexeme_apart : (k : Kind) (l rest : List ℕ) → IsLexeme k l → BeginsApart rest → IsLongest l rest
lexeme_apart k [] rest h begins = absurd (no_empty k h)
lexeme_apart k (b ∷ l) rest h begins = longest_apart k b l rest h begins

-- ---- the tokens

record Read (whole before text : List ℕ) (ss : List Spelled) : Type 0 where
  ts : List Token
  tokens : TokensThen Nothing ts false (length before) (later before first_place) text
  same : map (spelled_in whole) ts ≡ ss

read : (ss : List Spelled) (before text whole : List ℕ) → whole ≡ before ++ text → IsWrittenApart ss text
    → Read whole before text ss
unfolding TokensThen
read [] before text whole e h = record { ts = []; tokens = h; same = refl }
read (s ∷ ss) before text whole e h =
    let gap = h.0 in
    let rest = h.1 in
    let front = before ++ gap in
    let parts : whole ≡ front ++ (s.text ++ rest) =
    e ∙ ap (λ (x : List ℕ). before ++ x) h.2 ∙ sym (append_assoc before gap (s.text ++ rest)) in
    let more = read ss (front ++ s.text) rest whole (parts ∙ sym (append_assoc front s.text rest)) h.6 in
    let index : length (front ++ s.text) ≡ length before + length gap + length s.text =
    omega (arith, length-append front s.text, length-append before gap) in
    let place : later (front ++ s.text) first_place ≡ later s.text (later gap (later before first_place)) =
    later-append front s.text first_place ∙ ap (later s.text) (later-append before gap first_place) in
    let lexeme : take (length s.text) (drop (length before + length gap) whole) ≡ s.text =
    ap (λ (x : List ℕ). take (length s.text) (drop (length before + length gap) x)) parts
    ∙ ap (take (length s.text)) (drop_at front (s.text ++ rest) (length before + length gap) (length-append before gap))
    ∙ take_at s.text rest (length s.text) refl in
    record {
      ts = record {
        kind = s.kind;
        place = later gap (later before first_place);
        start = length before + length gap;
        len =
            length s.text;
      } ∷ more.ts;
      tokens = (
        record {
          gap = gap;
          lexeme = s.text;
          rest = rest;
          parts = h.2;
          closed = h.3;
          start = refl;
          place = refl;
          len = refl;
          spelled = h.4;
          longest = lexeme_apart s.kind s.text rest h.4 h.5;
        },
        subst (λ (p : Place). TokensThen Nothing more.ts false (length before + length gap + length s.text) p rest)
            place (subst (λ (i : ℕ). TokensThen Nothing more.ts false i (later (front ++ s.text) first_place) rest)
            index more.tokens),
      );
      same = ap (λ (x : List ℕ). record { kind = s.kind; text = x } ∷ map (spelled_in whole) more.ts) lexeme
          ∙ ap (λ (xs : List Spelled). s ∷ xs) more.same;
    }

pub written_apart : WrittenApartIsRead
written_apart ss text utf8 h =
    let r = read ss [] text text refl h in
    (r.ts, record { utf8 = utf8; tokens = r.tokens }, r.same)

read_as : (ss : List Spelled) (text : List ℕ) (ts : List Token) → IsWrittenApart ss text → HasTokens text ts
    → map (spelled_in text) ts ≡ ss
read_as ss text ts h k =
    let r = written_apart ss text k.utf8 h in
    ap (map (spelled_in text)) (one_list text ts r.0 k r.1) ∙ r.2

pub blanks_mean_nothing : BlanksMeanNothing
blanks_mean_nothing ss a b ts us h k t u = read_as ss a ts h t ∙ sym (read_as ss b us k u)
