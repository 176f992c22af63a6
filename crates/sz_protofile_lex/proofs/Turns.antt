-- The loop over a text, byte by byte.
use Rattle.std.proofs.Common.{◌≡◌, ℕ, zero, suc, ◌+◌, ◌-◌, ◌≤◌, ◌<◌, List, [], ◌∷◌, ◌++◌, length, drop, take, get_or, Result, Ok, Err, refl}
use Rattle.std.proofs.Common.{sym, ap, ◌∙◌, append_assoc, add-one, drop-cons, arith}
use Rattle.std.proofs.lemmas.List.{append-nil, drop_all, take_all, length-drop}
use Rattle.sz_types.specs.declared.place.Place.{Place}
use Rattle.sz_protofile_lex.specs.declared.token.Token.{Token}
use Rattle.sz_protofile_lex.specs.declared.token.Kind.{Kind}
use Rattle.sz_protofile_lex.specs.declared.item.Item.{Item}
use Rattle.sz_protofile_lex.specs.declared.item.Item.TheVariants.{Gap, Lexeme, Bad}
use Rattle.sz_lex.specs.Tokens.{after}
use Rattle.sz_protofile_lex.specs.Tokens.{item, act, with_token, tokens_from}

-- tokens that were found, and those that are still to be found
unfoldable pub with_front : List Token → Result (List Token) Place → Result (List Token) Place
with_front front (Ok ts) = Ok (front ++ ts)
with_front front (Err p) = Err p

-- the byte at i is the next
pub front_at : (text : List ℕ) (i : ℕ) → i < length text → drop i text ≡ get_or text i 0 ∷ drop (i + 1) text
front_at text i lt = rw (add-one, drop-cons text i 0) refl

-- what follows the byte at i, after so many further ones
abbrev go_on : List ℕ → ℕ → Place → ℕ → Result (List Token) Place
go_on text i p k = tokens_from k (i + 1) (after (get_or text i 0) p) (drop (i + 1) text)

pub passes : (text : List ℕ) (i k : ℕ) (p : Place) (front : List Token) (r : Result (List Token) Place)
    → i < length text → 0 < k → with_front front (tokens_from k i p (drop i text)) ≡ r
    → with_front front (go_on text i p (k - 1)) ≡ r
unfolding tokens_from
passes text i zero p front r lt some so_far = absurd (omega arith)
passes text i (suc k) p front r lt some so_far =
    let one : suc k - 1 ≡ k = omega arith in
    let e : tokens_from (suc k) i p (drop i text) ≡ go_on text i p k = rw (front_at text i lt) refl in
    rw one (ap (with_front front) (sym e) ∙ so_far)

-- at the front of an item
at_item : (text : List ℕ) (i : ℕ) (p : Place) → i < length text
    → tokens_from 0 i p (drop i text) ≡ act i p (item (drop i text)) (go_on text i p)
unfolding tokens_from
at_item text i p lt = rw (front_at text i lt) refl

pub gap_passes : (text : List ℕ) (i n : ℕ) (p : Place) (front : List Token) (r : Result (List Token) Place)
    → i < length text → Gap n ≡ item (drop i text)
    → with_front front (tokens_from 0 i p (drop i text)) ≡ r → with_front front (go_on text i p (n - 1)) ≡ r
gap_passes text i n p front r lt is so_far =
    ap (with_front front) (ap (λ (x : Item). act i p x (go_on text i p)) is ∙ sym (at_item text i p lt)) ∙ so_far

add_token : (front : List Token) (t : Token) (read : Result (List Token) Place)
    → with_front (front ++ t ∷ []) read ≡ with_front front (with_token t read)
unfolding with_front with_token
add_token front t (Ok ts) = ap (λ (us : List Token). Ok us) (simp append_assoc)
add_token front t (Err e) = refl

pub token_passes : (text : List ℕ) (i n : ℕ) (k : Kind) (p : Place) (front : List Token) (r : Result (List Token) Place)
    → i < length text → Lexeme k n ≡ item (drop i text) → with_front front (tokens_from 0 i p (drop i text)) ≡ r
    → with_front (front ++ record { kind = k; place = p; start = i; len = n } ∷ []) (go_on text i p (n - 1)) ≡ r
token_passes text i n k p front r lt is so_far =
    add_token front _ _
    ∙ ap (with_front front) (ap (λ (x : Item). act i p x (go_on text i p)) is ∙ sym (at_item text i p lt))
    ∙ so_far

pub bad_fails : (text : List ℕ) (i : ℕ) (p : Place) (front : List Token) (r : Result (List Token) Place)
    → i < length text → Bad ≡ item (drop i text) → with_front front (tokens_from 0 i p (drop i text)) ≡ r → r ≡ Err p
unfolding with_front
bad_fails text i p front r lt is so_far =
    sym so_far ∙ ap (with_front front) (at_item text i p lt ∙ ap (λ (x : Item). act i p x (go_on text i p)) (sym is))

pub all_passed : (text : List ℕ) (i k : ℕ) (p : Place) (front : List Token) (r : Result (List Token) Place)
    → length text ≤ i → with_front front (tokens_from k i p (drop i text)) ≡ r → r ≡ Ok front
unfolding tokens_from with_front
all_passed text i k p front r le so_far =
    let e : drop i text ≡ [] = drop_all i text le in
    sym so_far ∙ rw e (ap (λ (us : List Token). Ok us) (append-nil front))

pub start_front : (read : Result (List Token) Place) → with_front [] read ≡ read
unfolding with_front
start_front (Ok ts) = refl
start_front (Err e) = refl

-- the part of a text from i on
pub part_is : (text : List ℕ) (i : ℕ) → take (length text - i) (drop i text) ≡ drop i text
part_is text i = take_all (length text - i) (drop i text) (omega (arith, length-drop i text))
