-- The laws of tokens.
use Rattle.std.proofs.Common.{◌≡◌, ℕ, ◌+◌, ◌-◌, ◌<◌, Bool, true, false, List, [], ◌∷◌, ◌++◌, length, take, drop, Some, refl, sym, ap, subst}
use Rattle.std.proofs.Common.{◌∙◌, append_assoc, arith}
use Rattle.std.proofs.lemmas.List.{length-append, append_cancel_left, take_at, drop_at}
use Rattle.sz_types.specs.declared.place.Place.{Place}
use Rattle.sz_lex.specs.declared.token.Token.{Token}
use Rattle.sz_lex.specs.declared.error.LexError.TheVariants as errors
use Rattle.sz_lex.specs.Literals.{opening}
use Rattle.sz_lex.specs.Tokens.{IsLexeme, gap_from, after, later, first_place, Tail, TokensThen, Nothing, BadCharAt, begins_literal, BadLiteralAt}
use Rattle.sz_lex.specs.Reading.{Body, body_at}
use Rattle.sz_lex.specs.Lexed.{lexeme_of}
use Rattle.sz_lex.specs.Laws.{LieInOrder, SpansLieInOrder, HasOneList, HasNoRefusal, HasOneRefusal, RefusedPlaceIsInText, HasOneValue}
use Rattle.sz_lex.proofs.FormLemmas.{opened}
use Rattle.sz_lex.proofs.WholeLemmas.{tokens_given, char_given, literal_given}
use Rattle.sz_lex.proofs.AnswerLemmas.{not_whole, one_front}

-- ---- one answer

pub one_list : HasOneList
one_list text ts us h k = let both = sym (tokens_given text ts h.tokens) ∙ tokens_given text us k.tokens in cc

pub no_refusal : HasNoRefusal
no_refusal text ts (errors.BadChar q) h k =
    let both = sym (tokens_given text ts h.tokens) ∙ char_given text q k.before k.tokens in absurd cc
no_refusal text ts (errors.BadLiteral q) h k =
    let both = sym (tokens_given text ts h.tokens) ∙ literal_given text q k.before k.tokens in absurd cc
no_refusal text ts (errors.NotUtf8 q) h k = not_whole text k.len k.front h.utf8
no_refusal text ts errors.NoMemory h k = k

pub one_refusal : HasOneRefusal
one_refusal text (errors.BadChar p) (errors.BadChar q) h k = let both = sym (char_given text p h.before h.tokens)
    ∙ char_given text q k.before k.tokens in cc
one_refusal text (errors.BadChar p) (errors.BadLiteral q) h k = let both = sym (char_given text p h.before h.tokens)
    ∙ literal_given text q k.before k.tokens in absurd cc
one_refusal text (errors.BadChar p) (errors.NotUtf8 q) h k = absurd (not_whole text k.len k.front h.utf8)
one_refusal text (errors.BadChar p) errors.NoMemory h k = absurd k
one_refusal text (errors.BadLiteral p) (errors.BadChar q) h k = let both = sym (literal_given text p h.before h.tokens)
    ∙ char_given text q k.before k.tokens in absurd cc
one_refusal text (errors.BadLiteral p) (errors.BadLiteral q) h k =
    let both = sym (literal_given text p h.before h.tokens) ∙ literal_given text q k.before k.tokens in cc
one_refusal text (errors.BadLiteral p) (errors.NotUtf8 q) h k = absurd (not_whole text k.len k.front h.utf8)
one_refusal text (errors.BadLiteral p) errors.NoMemory h k = absurd k
one_refusal text (errors.NotUtf8 p) (errors.BadChar q) h k = absurd (not_whole text h.len h.front k.utf8)
one_refusal text (errors.NotUtf8 p) (errors.BadLiteral q) h k = absurd (not_whole text h.len h.front k.utf8)
one_refusal text (errors.NotUtf8 p) (errors.NotUtf8 q) h k = ap (λ (x : Place). errors.NotUtf8 x) (h.place
    ∙ ap (λ (n : ℕ). later (take n text) first_place) (one_front text h.len k.len h.front k.front) ∙ sym k.place)
one_refusal text (errors.NotUtf8 p) errors.NoMemory h k = absurd k
one_refusal text errors.NoMemory f h k = absurd h

pub one_value : HasOneValue
one_value q literal v w h k =
    let a = opened q literal v h in
    let b = opened q literal w k in
    let same : a.body ≡ b.body = append_cancel_left (opening q) a.body b.body (sym a.spelled ∙ b.spelled) in
    value (record { len = length a.body; value = v }) (record { len = length b.body; value = w }) (sym (a.read [])
    ∙ ap (λ (t : List ℕ). body_at q 0 (t ++ [])) same ∙ b.read [])
  where
    some_is : {x y : Body} → Some x ≡ Some y → x ≡ y
    some_is e = cc

    value : (x y : Body) → Some x ≡ Some y → x.value ≡ y.value
    value x y e = ap (λ (b : Body). b.value) (some_is e)

-- ---- places

pub later-append : (a b : List ℕ) (p : Place) → later (a ++ b) p ≡ later b (later a p)
later-append [] b p = refl
later-append (x ∷ a) b p = later-append a b (after x p)

-- a place after bytes at the front, with more to come
record InText (text : List ℕ) (q : Place) : Type 0 where
  before : List ℕ
  byte : ℕ
  rest : List ℕ
  parts : text ≡ before ++ (byte ∷ rest)
  place : q ≡ later before first_place

placed : (text : List ℕ) (q : Place) → InText text q
    → (at : ℕ) × (at < length text) × (q ≡ later (take at text) first_place)
placed text q h =
    let n = length h.before in (
      n,
      omega (arith, ap length h.parts, length-append h.before (h.byte ∷ h.rest)),
      h.place
          ∙ ap (λ (t : List ℕ). later t first_place)
          (sym (ap (take n) h.parts ∙ take_at h.before (h.byte ∷ h.rest) n refl)),
    )

-- where a tail's place is in what it speaks of
abbrev IsInside : (Place → Tail) → Type 0
IsInside P = (q : Place) (c : Bool) (at : ℕ) (before text whole : List ℕ) → whole ≡ before ++ text
    → P q c at (later before first_place) text → InText whole q

char_inside : IsInside BadCharAt
char_inside q c at before text whole e h = record {
  before = before ++ h.gap;
  byte = h.byte;
  rest = h.rest;
  parts = e ∙ ap (λ (t : List ℕ). before ++ t) h.parts ∙ sym (append_assoc before h.gap (h.byte ∷ h.rest));
  place = h.place ∙ sym (later-append before h.gap first_place);
}

literal_inside : IsInside BadLiteralAt
literal_inside q c at before text whole e h = go h.rest refl
  where
    go : (rest : List ℕ) → h.rest ≡ rest → InText whole q
    go [] f = let none : begins_literal [] ≡ true = ap begins_literal (sym f) ∙ h.begins in absurd cc
    go (b ∷ rest) f = record {
      before = before ++ h.gap;
      byte = b;
      rest = rest;
      parts = e ∙ ap (λ (t : List ℕ). before ++ t) (h.parts ∙ ap (λ (t : List ℕ). h.gap ++ t) f)
          ∙ sym (append_assoc before h.gap (b ∷ rest));
      place = h.place ∙ sym (later-append before h.gap first_place);
    }

tail_inside : (P : Place → Tail) → IsInside P
    → (q : Place) (ts : List Token) (c : Bool) (at : ℕ) (before text whole : List ℕ)
    → whole ≡ before ++ text → TokensThen (P q) ts c at (later before first_place) text → InText whole q
unfolding TokensThen
tail_inside P inside q [] c at before text whole e h = inside q c at before text whole e h
tail_inside P inside q (t ∷ ts) c at before text whole e h =
    let n = h.0 in
    let parts : whole ≡ before ++ n.gap ++ n.lexeme ++ n.rest = e ∙ ap (λ (x : List ℕ). before ++ x) n.parts
    ∙ sym (append_assoc before n.gap (n.lexeme ++ n.rest)) ∙ sym (append_assoc (before ++ n.gap) n.lexeme n.rest) in
    let place : later n.lexeme (later n.gap (later before first_place))
    ≡ later (before ++ n.gap ++ n.lexeme) first_place =
    ap (later n.lexeme) (sym (later-append before n.gap first_place))
    ∙ sym (later-append (before ++ n.gap) n.lexeme first_place) in
    tail_inside P inside q ts false _ (before ++ n.gap ++ n.lexeme) n.rest whole parts (subst (λ (p : Place). TokensThen
    (P q) ts false (at + length n.gap + length n.lexeme) p n.rest) place h.1)

pub refused_in_text : RefusedPlaceIsInText
refused_in_text text (errors.BadChar q) h =
    placed text q (tail_inside BadCharAt char_inside q h.before false 0 [] text text refl h.tokens)
refused_in_text text (errors.BadLiteral q) h =
    placed text q (tail_inside BadLiteralAt literal_inside q h.before false 0 [] text text refl h.tokens)
refused_in_text text (errors.NotUtf8 q) h = (h.len, h.front.short, h.place)
refused_in_text text errors.NoMemory h = absurd h

-- ---- spans

in_order : (ts : List Token) (before text whole : List ℕ) → whole ≡ before ++ text
    → TokensThen Nothing ts false (length before) (later before first_place) text → LieInOrder whole (length before) ts
unfolding TokensThen
in_order [] before text whole e h = let rest : drop (length before) whole ≡ text = ap (drop (length before)) e
    ∙ drop_at before text (length before) refl in (h.0, ap (gap_from false) rest ∙ h.1)
in_order (t ∷ ts) before text whole e h =
    let n = h.0 in
    let front = before ++ n.gap in
    let rest : whole ≡ front ++ (n.lexeme ++ n.rest) = e ∙ ap (λ (x : List ℕ). before ++ x) n.parts
    ∙ sym (append_assoc before n.gap (n.lexeme ++ n.rest)) in
    let parts : whole ≡ front ++ n.lexeme ++ n.rest = rest ∙ sym (append_assoc front n.lexeme n.rest) in
    let start : length front ≡ t.start = length-append before n.gap ∙ sym n.start in
    let size : length (front ++ n.lexeme) ≡ t.start + t.len =
    omega (arith, length-append front n.lexeme, start, n.len) in
    let gap_len : length n.gap ≡ t.start - length before = omega (arith, n.start) in
    let left : drop (length before) whole ≡ n.gap ++ (n.lexeme ++ n.rest) = ap (drop (length before)) e
    ∙ drop_at before text (length before) refl ∙ n.parts in
    let gap : take (t.start - length before) (drop (length before) whole) ≡ n.gap =
    ap (take (t.start - length before)) left ∙ take_at n.gap (n.lexeme ++ n.rest) (t.start - length before) gap_len in
    let lexeme : lexeme_of whole t ≡ n.lexeme = ap (λ (x : List ℕ). take t.len (drop t.start x)) rest
    ∙ ap (take t.len) (drop_at front (n.lexeme ++ n.rest) t.start start) ∙ take_at n.lexeme n.rest t.len (sym n.len) in
    let place : later n.lexeme (later n.gap (later before first_place)) ≡ later (front ++ n.lexeme) first_place =
    ap (later n.lexeme) (sym (later-append before n.gap first_place)) ∙ sym (later-append front n.lexeme first_place) in
    let index : length before + length n.gap + length n.lexeme ≡ length (front ++ n.lexeme) =
    omega (arith, length-append front n.lexeme, length-append before n.gap) in
    let more =
    in_order ts (front ++ n.lexeme) n.rest whole parts (subst (λ (i : ℕ). TokensThen Nothing ts false i (later
    (front ++ n.lexeme) first_place) n.rest) index (subst (λ (p : Place). TokensThen Nothing ts false
    (length before + length n.gap + length n.lexeme) p n.rest) place h.1)) in (
      omega (arith, n.start),
      omega (arith, size, ap length parts, length-append (front ++ n.lexeme) n.rest),
      (false, ap (gap_from false) gap ∙ n.closed),
      n.place ∙ sym (later-append before n.gap first_place)
          ∙ ap (λ (x : List ℕ). later x first_place)
          (sym (ap (take t.start) rest ∙ take_at front (n.lexeme ++ n.rest) t.start start)),
      subst (IsLexeme t.kind) (sym lexeme) n.spelled,
      subst (λ (i : ℕ). LieInOrder whole i ts) size more,
    )

pub spans_in_order : SpansLieInOrder
spans_in_order text ts h = in_order ts [] text text refl h.tokens
