-- The lexer's loop, byte by byte.
use Rattle.std.proofs.Common.{◌≡◌, ℕ, zero, suc, ◌+◌, ◌-◌, ◌≤◌, ◌<◌, List, [], ◌∷◌, ◌++◌, length, drop, take, get_or, Result, Ok, Err, refl}
use Rattle.std.proofs.Common.{sym, ap, ◌∙◌, append_assoc, add-one, drop-cons, arith}
use Rattle.std.proofs.lemmas.List.{append-nil, drop_all, take_all, length-drop}
use Rattle.std.proofs.lemmas.Bool.Decides.{nat_tests}
use Rattle.sz_types.specs.declared.place.Place.{Place}
use Rattle.sz_lex.specs.declared.token.Token.{Token}
use Rattle.sz_lex.specs.declared.token.Kind.{Kind}
use Rattle.sz_lex.specs.declared.item.Item.{Item}
use Rattle.sz_lex.specs.declared.item.Item.TheVariants.{Gap, Lexeme, BadChar, BadLiteral}
use Rattle.sz_lex.specs.declared.error.LexError.{LexError}
use Rattle.sz_lex.specs.declared.error.LexError.TheVariants as errors
use Rattle.sz_lex.specs.Tokens.{after}
use Rattle.sz_lex.specs.Reading.{item, act, bind, lexed, with_front}

-- the byte at i is the next
front_at : (text : List ℕ) (i : ℕ) → i < length text → drop i text ≡ get_or text i 0 ∷ drop (i + 1) text
front_at text i lt = rw (add-one, drop-cons text i 0) refl

pub passes : (text : List ℕ) (i k : ℕ) (p : Place) (front : List Token) (r : Result (List Token) LexError)
    → i < length text → 0 < k → with_front front (lexed k i p (drop i text)) ≡ r
    → with_front front (lexed (k - 1) (i + 1) (after (get_or text i 0) p) (drop (i + 1) text)) ≡ r
unfolding lexed
passes text i zero p front r lt some so_far = absurd (omega arith)
passes text i (suc k) p front r lt some so_far =
    let one : suc k - 1 ≡ k = omega arith in
    let e : lexed (suc k) i p (drop i text) ≡ lexed k (i + 1) (after (get_or text i 0) p) (drop (i + 1) text) =
    rw (front_at text i lt) refl in
    rw one (ap (with_front front) (sym e) ∙ so_far)

-- at the front of an item
at_item : (text : List ℕ) (i : ℕ) (p : Place) → i < length text
    → lexed 0 i p (drop i text)
    ≡ act i p (item (drop i text)) (λ k. lexed k (i + 1) (after (get_or text i 0) p) (drop (i + 1) text))
unfolding lexed
at_item text i p lt = rw (front_at text i lt) refl

pub gap_passes : (text : List ℕ) (i n : ℕ) (p : Place) (front : List Token) (r : Result (List Token) LexError)
    → i < length text → Gap n ≡ item (drop i text) → with_front front (lexed 0 i p (drop i text)) ≡ r
    → with_front front (lexed (n - 1) (i + 1) (after (get_or text i 0) p) (drop (i + 1) text)) ≡ r
gap_passes text i n p front r lt is so_far =
    ap (with_front front)
    (ap (λ (x : Item). act i p x (λ k. lexed k (i + 1) (after (get_or text i 0) p) (drop (i + 1) text))) is
    ∙ sym (at_item text i p lt)) ∙ so_far

add_token : (front : List Token) (t : Token) (read : Result (List Token) LexError)
    → with_front (front ++ t ∷ []) read ≡ with_front front (bind read (λ ts. Ok (t ∷ ts)))
unfolding with_front bind
add_token front t (Ok ts) = ap (λ (us : List Token). Ok us) (simp append_assoc)
add_token front t (Err e) = refl

pub token_passes : (text : List ℕ) (i n : ℕ) (k : Kind) (p : Place) (front : List Token)
    (r : Result (List Token) LexError) → i < length text → Lexeme k n ≡ item (drop i text)
    → with_front front (lexed 0 i p (drop i text)) ≡ r → with_front (front ++ record {
      kind = k;
      place = p;
      start = i;
      len =
          n;
    } ∷ []) (lexed (n - 1) (i + 1) (after (get_or text i 0) p) (drop (i + 1) text)) ≡ r
token_passes text i n k p front r lt is so_far =
    add_token front _ _
    ∙ ap (with_front front) (ap (λ (x : Item). act i p x (λ k. lexed k (i + 1) (after (get_or text i 0) p) (drop
    (i + 1) text))) is ∙ sym (at_item text i p lt)) ∙ so_far

pub char_fails : (text : List ℕ) (i : ℕ) (p : Place) (front : List Token) (r : Result (List Token) LexError)
    → i < length text → BadChar ≡ item (drop i text)
    → with_front front (lexed 0 i p (drop i text)) ≡ r → r ≡ Err (errors.BadChar p)
unfolding with_front bind
char_fails text i p front r lt is so_far =
    sym so_far ∙ ap (with_front front) (at_item text i p lt ∙ ap (λ (x : Item). act i p x (λ k. lexed k (i + 1) (after
    (get_or text i 0) p) (drop (i + 1) text))) (sym is))

pub literal_fails : (text : List ℕ) (i : ℕ) (p : Place) (front : List Token) (r : Result (List Token) LexError)
    → i < length text → BadLiteral ≡ item (drop i text)
    → with_front front (lexed 0 i p (drop i text)) ≡ r → r ≡ Err (errors.BadLiteral p)
unfolding with_front bind
literal_fails text i p front r lt is so_far =
    sym so_far ∙ ap (with_front front) (at_item text i p lt ∙ ap (λ (x : Item). act i p x (λ k. lexed k (i + 1) (after
    (get_or text i 0) p) (drop (i + 1) text))) (sym is))

pub all_passed : (text : List ℕ) (i k : ℕ) (p : Place) (front : List Token) (r : Result (List Token) LexError)
    → length text ≤ i → with_front front (lexed k i p (drop i text)) ≡ r → r ≡ Ok front
unfolding lexed with_front bind
all_passed text i k p front r le so_far =
    let e : drop i text ≡ [] = drop_all i text le in
    sym so_far ∙ rw e (ap (λ (us : List Token). Ok us) (append-nil front))

pub start_front : (read : Result (List Token) LexError) → with_front [] read ≡ read
unfolding with_front bind
start_front (Ok ts) = refl
start_front (Err e) = refl

-- the part of a text from i on
pub part_is : (text : List ℕ) (i : ℕ) → take (length text - i) (drop i text) ≡ drop i text
part_is text i = take_all (length text - i) (drop i text) (omega (arith, length-drop i text))

pub lines_below : (b n : ℕ) (p : Place) → p.line ≤ n → (after b p).line ≤ n + 1
lines_below b n p h = grind (arith, nat_tests)

pub columns_below : (b n : ℕ) (p : Place) → p.column ≤ n → (after b p).column ≤ n + 1
columns_below b n p h = grind (arith, nat_tests)
