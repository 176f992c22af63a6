-- A text has exactly the tokens, or exactly the refusal, that reading it from left to right gives.
use Rattle.std.proofs.Common.{◌≡◌, ℕ, zero, suc, ◌+◌, ◌-◌, ◌≤◌, Bool, true, false, eqb, List, [], ◌∷◌, ◌++◌, length, Ok, Err, refl, sym, ap}
use Rattle.std.proofs.Common.{subst, ◌∙◌, arith}
use Rattle.std.proofs.lemmas.List.{length-append, append-nil}
use Rattle.sz_types.specs.declared.place.Place.{Place}
use Rattle.sz_lex.specs.declared.token.Token.{Token}
use Rattle.sz_lex.specs.declared.token.Kind.{Kind}
use Rattle.sz_lex.specs.declared.error.LexError.TheVariants as errors
use Rattle.sz_lex.specs.declared.item.Item.{Item}
use Rattle.sz_lex.specs.declared.item.Item.TheVariants.{BadChar, BadLiteral}
use Rattle.sz_lex.specs.Tokens.{IsLexeme, IsLongest, gap_from, after, later, first_place, Tail, TokensThen, Nothing, BadCharAt}
use Rattle.sz_lex.specs.Tokens.{begins_literal, BadLiteralAt}
use Rattle.sz_lex.specs.Reading.{item_of, act, bind, lexed}
use Rattle.sz_lex.proofs.GapLemmas.{Answer, passed, left_of, gap_end, gap_more, gap_blank, gap_hash, gap_passed, last_gap}
use Rattle.sz_lex.proofs.ItemLemmas.{no_empty, token_item}
use Rattle.sz_lex.proofs.FrontLemmas.{At, BeginsNone, Front, blank, comment, lexeme, bad_char, bad_literal, front_of}
use Rattle.sz_lex.proofs.RefusalLemmas.{bad_char_item, bad_literal_item, bad_literal_none}

-- ---- a token is found

head_item : (b : ℕ) (bs : List ℕ) (at : ℕ) (p : Place)
    → lexed 0 at p (b ∷ bs) ≡ act at p (item_of b bs) (λ k. lexed k (at + 1) (after b p) bs)
unfolding lexed
head_item b bs at p = refl

token_found : (k : Kind) (l rest : List ℕ) (at : ℕ) (p : Place) → IsLexeme k l → IsLongest l rest
    → lexed 0 at p (l ++ rest) ≡ bind (lexed 0 (at + length l) (later l p) rest) (λ ts. Ok (record {
      kind = k;
      place = p;
      start =
          at;
      len = length l;
    } ∷ ts))
token_found k [] rest at p h longest = absurd (no_empty k h)
token_found k (b ∷ l) rest at p h longest =
    let n : suc (length l) - 1 ≡ length l = omega arith in
    let m : at + 1 + length l ≡ at + suc (length l) = omega arith in
    head_item b (l ++ rest) at p
    ∙ ap (λ (x : Item). act at p x (λ j. lexed j (at + 1) (after b p) (l ++ rest)))
    (token_item k (b ∷ l) rest h longest) ∙ ap (λ x. bind (lexed x (at + 1) (after b p) (l ++ rest))
    (λ ts. Ok (record { kind = k; place = p; start = at; len = suc (length l) } ∷ ts))) n
    ∙ ap (λ (x : Answer). bind x (λ ts. Ok (record {
      kind = k;
      place = p;
      start = at;
      len =
          suc (length l);
    } ∷ ts))) (passed l rest (at + 1) (after b p) ∙ ap (λ x. lexed 0 x (later l (after b p)) rest) m)

-- ---- what the text has is what reading gives

after_tokens : List Token → Answer → Answer
after_tokens ts r = bind r (λ us. Ok (ts ++ us))

bind_bind : (t : Token) (ts : List Token) (r : Answer)
    → bind (after_tokens ts r) (λ us. Ok (t ∷ us)) ≡ after_tokens (t ∷ ts) r
unfolding bind after_tokens
bind_bind t ts (Ok us) = refl
bind_bind t ts (Err e) = refl

none_after : (r : Answer) → after_tokens [] r ≡ r
unfolding bind after_tokens
none_after (Ok us) = refl
none_after (Err e) = refl

complete : (P : Tail) (r : Answer)
    → ((c : Bool) (at : ℕ) (p : Place) (text : List ℕ) → P c at p text → lexed (left_of c text) at p text ≡ r)
    → (ts : List Token) (c : Bool) (at : ℕ) (p : Place) (text : List ℕ) → TokensThen P ts c at p text
    → lexed (left_of c text) at p text ≡ after_tokens ts r
unfolding TokensThen
complete P r k [] c at p text h = k c at p text h ∙ sym (none_after r)
complete P r k (t ∷ ts) c at p text h =
    let n = h.0 in
    let same : record { kind = t.kind; place = later n.gap p; start = at + length n.gap; len = length n.lexeme } ≡ t =
    rw (← n.start, ← n.place, ← n.len) refl in
    ap (λ (x : List ℕ). lexed (left_of c x) at p x) n.parts
    ∙ gap_passed c n.gap (n.lexeme ++ n.rest) at p n.closed
    ∙ token_found t.kind n.lexeme n.rest (at + length n.gap) (later n.gap p) n.spelled n.longest
    ∙ ap (λ (x : Answer). bind x (λ us. Ok (record {
      kind = t.kind;
      place = later n.gap p;
      start = at + length n.gap;
      len =
          length n.lexeme;
    } ∷ us)))
    (complete P r k ts false (at + length n.gap + length n.lexeme) (later n.lexeme (later n.gap p)) n.rest h.1)
    ∙ bind_bind _ ts r
    ∙ ap (λ (x : Token). after_tokens (x ∷ ts) r) same

nothing_left : (c : Bool) (at : ℕ) (p : Place) (text : List ℕ) → Nothing c at p text
    → lexed (left_of c text) at p text ≡ Ok []
nothing_left c at p text h = ap (λ (x : List ℕ). lexed (left_of c x) at p x) (sym (append-nil text))
    ∙ last_gap c h.0 text at p h.1

bad_turn : (b : ℕ) (bs : List ℕ) (at : ℕ) (p : Place) → item_of b bs ≡ BadChar
    → lexed 0 at p (b ∷ bs) ≡ Err (errors.BadChar p)
bad_turn b bs at p e = head_item b bs at p ∙ ap (λ (x : Item). act at p x (λ k. lexed k (at + 1) (after b p) bs)) e

literal_turn : (b : ℕ) (bs : List ℕ) (at : ℕ) (p : Place) → item_of b bs ≡ BadLiteral
    → lexed 0 at p (b ∷ bs) ≡ Err (errors.BadLiteral p)
literal_turn b bs at p e = head_item b bs at p ∙ ap (λ (x : Item). act at p x (λ k. lexed k (at + 1) (after b p) bs)) e

no_token : (q : Place) (c : Bool) (at : ℕ) (p : Place) (text : List ℕ) → BadCharAt q c at p text
    → lexed (left_of c text) at p text ≡ Err (errors.BadChar q)
no_token q c at p text h =
    ap (λ (x : List ℕ). lexed (left_of c x) at p x) h.parts
    ∙ gap_passed c h.gap (h.byte ∷ h.rest) at p h.closed
    ∙ bad_turn h.byte h.rest _ _
    (bad_char_item h.byte h.rest (record { blank = h.blank; hash = h.hash; none = h.none }))
    ∙ ap (λ (x : Place). Err (errors.BadChar x)) (sym h.place)

literal_here : (rest : List ℕ) (at : ℕ) (p : Place) → begins_literal rest ≡ true → ((k : Kind) (l others : List ℕ)
    → rest ≡ l ++ others → IsLexeme k l → IsLongest l others → ⊥) → lexed 0 at p rest ≡ Err (errors.BadLiteral p)
literal_here [] at p begins none = absurd cc
literal_here (b ∷ bs) at p begins none = literal_turn b bs at p (bad_literal_item b bs begins none)

no_literal : (q : Place) (c : Bool) (at : ℕ) (p : Place) (text : List ℕ) → BadLiteralAt q c at p text
    → lexed (left_of c text) at p text ≡ Err (errors.BadLiteral q)
no_literal q c at p text h =
    ap (λ (x : List ℕ). lexed (left_of c x) at p x) h.parts
    ∙ gap_passed c h.gap h.rest at p h.closed
    ∙ literal_here h.rest _ _ h.begins h.none
    ∙ ap (λ (x : Place). Err (errors.BadLiteral x)) (sym h.place)

pub tokens_given : (text : List ℕ) (ts : List Token) → TokensThen Nothing ts false 0 first_place text
    → lexed 0 0 first_place text ≡ Ok ts
unfolding after_tokens bind
tokens_given text ts h = complete Nothing (Ok []) nothing_left ts false 0 first_place text h
    ∙ ap (λ (x : List Token). Ok x) (append-nil ts)

pub char_given : (text : List ℕ) (q : Place) (ts : List Token) → TokensThen (BadCharAt q) ts false 0 first_place text
    → lexed 0 0 first_place text ≡ Err (errors.BadChar q)
unfolding after_tokens bind
char_given text q ts h = complete (BadCharAt q) (Err (errors.BadChar q)) (no_token q) ts false 0 first_place text h

pub literal_given : (text : List ℕ) (q : Place) (ts : List Token)
    → TokensThen (BadLiteralAt q) ts false 0 first_place text → lexed 0 0 first_place text ≡ Err (errors.BadLiteral q)
unfolding after_tokens bind
literal_given text q ts h =
    complete (BadLiteralAt q) (Err (errors.BadLiteral q)) (no_literal q) ts false 0 first_place text h

-- ---- every text has tokens or a refusal

-- a tail that may begin a byte earlier, if that belongs to the gap
abbrev IsGrowing : Tail → Type 0
IsGrowing P = (c d : Bool) (b : ℕ) (at : ℕ) (p : Place) (bs : List ℕ)
    → ((g : List ℕ) → gap_from c (b ∷ g) ≡ gap_from d g) → P d (at + 1) (after b p) bs → P c at p (b ∷ bs)

nothing_grows : IsGrowing Nothing
nothing_grows c d b at p bs step h = (h.0, step bs ∙ h.1)

char_grows : (q : Place) → IsGrowing (BadCharAt q)
char_grows q c d b at p bs step h = record {
  gap = b ∷ h.gap;
  byte = h.byte;
  rest = h.rest;
  parts =
      ap (λ (t : List ℕ). b ∷ t) h.parts;
  closed = step h.gap ∙ h.closed;
  place = h.place;
  blank = h.blank;
  hash = h.hash;
  none = h.none;
}

literal_grows : (q : Place) → IsGrowing (BadLiteralAt q)
literal_grows q c d b at p bs step h = record {
  gap = b ∷ h.gap;
  rest = h.rest;
  parts =
      ap (λ (t : List ℕ). b ∷ t) h.parts;
  closed = step h.gap ∙ h.closed;
  place = h.place;
  begins = h.begins;
  none = h.none;
}

tokens_grow : (P : Tail) → IsGrowing P → (ts : List Token) → IsGrowing (TokensThen P ts)
unfolding TokensThen
tokens_grow P grows [] c d b at p bs step h = grows c d b at p bs step h
tokens_grow P grows (t ∷ ts) c d b at p bs step h =
    let n = h.0 in
    let m : at + 1 + length n.gap ≡ at + suc (length n.gap) = omega arith in (
      record {
        gap = b ∷ n.gap;
        lexeme = n.lexeme;
        rest = n.rest;
        parts = ap (λ (x : List ℕ). b ∷ x) n.parts;
        closed = step n.gap ∙ n.closed;
        start = n.start ∙ m;
        place = n.place;
        len = n.len;
        spelled = n.spelled;
        longest = n.longest;
      },
      subst (λ (m : ℕ). TokensThen P ts false (m + length n.lexeme) (later n.lexeme (later n.gap (after b p))) n.rest)
          m h.1,
    )

-- a token at the front
token_front : (P : Tail) (k : Kind) (l rest : List ℕ) (ts : List Token) (at : ℕ) (p : Place) → IsLexeme k l
    → IsLongest l rest → TokensThen P ts false (at + length l) (later l p) rest
    → TokensThen P (record { kind = k; place = p; start = at; len = length l } ∷ ts) false at p (l ++ rest)
unfolding TokensThen
token_front P k l rest ts at p h longest others =
    let n : at ≡ at + 0 = omega arith in (
      record {
        gap = [];
        lexeme = l;
        rest = rest;
        parts = refl;
        closed = refl;
        start = n;
        place = refl;
        len = refl;
        spelled = h;
        longest = longest;
      },
      subst (λ (m : ℕ). TokensThen P ts false (m + length l) (later l p) rest) n others,
    )

-- one of the three
pub data Outcome (c : Bool) (at : ℕ) (p : Place) (text : List ℕ) : Type 0 where
  has_tokens : (ts : List Token) → TokensThen Nothing ts c at p text → Outcome c at p text
  has_bad_char : (q : Place) (ts : List Token) → TokensThen (BadCharAt q) ts c at p text → Outcome c at p text
  has_bad_literal : (q : Place) (ts : List Token) → TokensThen (BadLiteralAt q) ts c at p text → Outcome c at p text

grown : (c d : Bool) (b : ℕ) (at : ℕ) (p : Place) (bs : List ℕ) → ((g : List ℕ) → gap_from c (b ∷ g) ≡ gap_from d g)
    → Outcome d (at + 1) (after b p) bs → Outcome c at p (b ∷ bs)
grown c d b at p bs step (has_tokens ts h) = has_tokens ts (tokens_grow Nothing nothing_grows ts c d b at p bs step h)
grown c d b at p bs step (has_bad_char q ts h) =
    has_bad_char q ts (tokens_grow (BadCharAt q) (char_grows q) ts c d b at p bs step h)
grown c d b at p bs step (has_bad_literal q ts h) =
    has_bad_literal q ts (tokens_grow (BadLiteralAt q) (literal_grows q) ts c d b at p bs step h)

with_token : (k : Kind) (l rest : List ℕ) (at : ℕ) (p : Place) → IsLexeme k l → IsLongest l rest
    → Outcome false (at + length l) (later l p) rest → Outcome false at p (l ++ rest)
with_token k l rest at p h longest (has_tokens ts o) =
    has_tokens (_ ∷ ts) (token_front Nothing k l rest ts at p h longest o)
with_token k l rest at p h longest (has_bad_char q ts o) =
    has_bad_char q (_ ∷ ts) (token_front (BadCharAt q) k l rest ts at p h longest o)
with_token k l rest at p h longest (has_bad_literal q ts o) =
    has_bad_literal q (_ ∷ ts) (token_front (BadLiteralAt q) k l rest ts at p h longest o)

abbrev Again : ℕ → Type 0
Again n = (c : Bool) (at : ℕ) (p : Place) (text : List ℕ) → length text ≤ n → Outcome c at p text

rest_shorter : (k : Kind) (b : ℕ) (bs l rest : List ℕ) (n : ℕ) → IsLexeme k l → b ∷ bs ≡ l ++ rest → length bs ≤ n
    → length rest ≤ n
rest_shorter k b bs [] rest n h e le = absurd (no_empty k h)
rest_shorter k b bs (c ∷ l) rest n h e le = omega (arith, ap length e, length-append l rest)

decide_here : (n : ℕ) → Again n → (b : ℕ) (bs : List ℕ) (at : ℕ) (p : Place) → length bs ≤ n
    → Outcome false at p (b ∷ bs)
unfolding TokensThen
decide_here n again b bs at p le = go (front_of b bs)
  where
    token : (k : Kind) (m : ℕ) → At k m (b ∷ bs) → Outcome false at p (b ∷ bs)
    token k m a = subst (Outcome false at p) (sym a.parts) (with_token k a.lexeme a.rest at p a.spelled a.longest
        (again false _ _ a.rest (rest_shorter k b bs a.lexeme a.rest n a.spelled a.parts le)))

    char : BeginsNone b → Outcome false at p (b ∷ bs)
    char x = has_bad_char p [] (record {
      gap = [];
      byte = b;
      rest = bs;
      parts = refl;
      closed = refl;
      place = refl;
      blank =
          x.blank;
      hash = x.hash;
      none = x.none;
    })

    go : Front b bs → Outcome false at p (b ∷ bs)
    go (blank e) = grown false false b at p bs (λ k. gap_blank b k e) (again false (at + 1) (after b p) bs le)
    go (comment e f) = grown false true b at p bs (λ k. gap_hash b k e f) (again true (at + 1) (after b p) bs le)
    go (lexeme k m e a) = token k m a
    go (bad_char e x) = char x
    go (bad_literal e x) = has_bad_literal p [] (record {
      gap = [];
      rest = b ∷ bs;
      parts = refl;
      closed = refl;
      place =
          refl;
      begins = x;
      none = bad_literal_none (b ∷ bs) e;
    })

comment_here : (n : ℕ) → Again n → (b : ℕ) (bs : List ℕ) (at : ℕ) (p : Place) → length bs ≤ n
    → Outcome true at p (b ∷ bs)
comment_here n again b bs at p le = go (eqb b 10) refl
  where
    go : (x : Bool) → eqb b 10 ≡ x → Outcome true at p (b ∷ bs)
    go true e = grown true false b at p bs (λ k. gap_end b k e) (again false (at + 1) (after b p) bs le)
    go false e = grown true true b at p bs (λ k. gap_more b k e) (again true (at + 1) (after b p) bs le)

nothing_here : (c : Bool) (at : ℕ) (p : Place) → Outcome c at p []
unfolding TokensThen
nothing_here c at p = has_tokens [] (c, refl)

decide : (n : ℕ) (c : Bool) (at : ℕ) (p : Place) (text : List ℕ) → length text ≤ n → Outcome c at p text
decide n c at p [] le = nothing_here c at p
decide zero c at p (b ∷ bs) le = absurd (omega arith)
decide (suc n) false at p (b ∷ bs) le = decide_here n (decide n) b bs at p (omega arith)
decide (suc n) true at p (b ∷ bs) le = comment_here n (decide n) b bs at p (omega arith)

pub outcome : (text : List ℕ) → Outcome false 0 first_place text
outcome text = decide (length text) false 0 first_place text (omega arith)

-- ---- what reading gives is what the text has

pub given_tokens : (text : List ℕ) (ts : List Token) → lexed 0 0 first_place text ≡ Ok ts
    → TokensThen Nothing ts false 0 first_place text
given_tokens text ts h = go (outcome text)
  where
    same : {us : List Token} → Ok us ≡ lexed 0 0 first_place text → us ≡ ts
    same e = let both = e ∙ h in cc

    go : Outcome false 0 first_place text → TokensThen Nothing ts false 0 first_place text
    go (has_tokens us o) = subst (λ (ts : List Token). TokensThen Nothing ts false 0 first_place text)
        (same (sym (tokens_given text us o))) o
    go (has_bad_char q us o) = let both = sym (char_given text q us o) ∙ h in absurd cc
    go (has_bad_literal q us o) = let both = sym (literal_given text q us o) ∙ h in absurd cc

-- tokens, and after them the refusal
pub record Refused (P : Place → Tail) (text : List ℕ) (q : Place) : Type 0 where
  pub before : List Token
  pub tokens : TokensThen (P q) before false 0 first_place text

pub given_char : (text : List ℕ) (q : Place) → lexed 0 0 first_place text ≡ Err (errors.BadChar q)
    → Refused BadCharAt text q
given_char text q h = go (outcome text)
  where
    same : {r : Place} → Err (errors.BadChar r) ≡ lexed 0 0 first_place text → r ≡ q
    same e = let both = e ∙ h in cc

    go : Outcome false 0 first_place text → Refused BadCharAt text q
    go (has_tokens us o) = let both = sym (tokens_given text us o) ∙ h in absurd cc
    go (has_bad_char r us o) =
        subst (Refused BadCharAt text) (same (sym (char_given text r us o))) (record { before = us; tokens = o })
    go (has_bad_literal r us o) = let both = sym (literal_given text r us o) ∙ h in absurd cc

pub given_literal : (text : List ℕ) (q : Place) → lexed 0 0 first_place text ≡ Err (errors.BadLiteral q)
    → Refused BadLiteralAt text q
given_literal text q h = go (outcome text)
  where
    same : {r : Place} → Err (errors.BadLiteral r) ≡ lexed 0 0 first_place text → r ≡ q
    same e = let both = e ∙ h in cc

    go : Outcome false 0 first_place text → Refused BadLiteralAt text q
    go (has_tokens us o) = let both = sym (tokens_given text us o) ∙ h in absurd cc
    go (has_bad_char r us o) = let both = sym (char_given text r us o) ∙ h in absurd cc
    go (has_bad_literal r us o) = subst (Refused BadLiteralAt text) (same (sym (literal_given text r us o)))
        (record { before = us; tokens = o })
