-- Where the body of a literal ends, found from mark to mark: a quote, a backslash or a newline.
use Rattle.std.proofs.Common.{◌≡◌, ℕ, zero, suc, ◌+◌, ◌-◌, ◌≤◌, ◌<◌, Bool, true, false, eqb, List, [], ◌∷◌, ◌++◌, length, take, drop}
use Rattle.std.proofs.Common.{get_or, Option, Some, None, refl, sym, ap, subst, ◌∙◌, append_assoc, arith}
use Rattle.std.proofs.lemmas.List.{length-append, drop_more, drop-drop, drop_at, drop_all, take_rest, get_or-drop, append-nil}
use Rattle.std.proofs.lemmas.Bool.{eqb-true, eq-eqb}
use Rattle.std.specs.Option.{option_map, option_and_then}
use Rattle.memchr.specs.Find.{IsFirstByte, is_byte3}
use Rattle.sz_lex.specs.declared.escape.Escape.{Escape}
use Rattle.sz_lex.specs.declared.escape.Quoted.{Quoted}
use Rattle.sz_lex.specs.Literals.{is_plain, escape_bytes}
use Rattle.sz_lex.specs.Reading.{whole_value, Body, longer, body_at, escape_at, escape_size, first}
use Rattle.sz_lex.proofs.LiteralLemmas.{none_some, at_quote, at_escape, at_plain, at_newline, ahead, skipped, EscapeAt, escape_is}
use Rattle.sz_lex.proofs.SearchLemmas.{no_test}

-- a body after so many bytes more, which stand for these
abbrev pub shift : ℕ → List ℕ → Option Body → Option Body
shift n v o = option_map (λ (b : Body). record { len = n + b.len; value = v ++ b.value }) o

body_is : (b c : Body) → b.len ≡ c.len → b.value ≡ c.value → Some b ≡ Some c
body_is b c p q = ap (λ (n : ℕ). Some (record { len = n; value = b.value })) p
    ∙ ap (λ (v : List ℕ). Some (record { len = c.len; value = v })) q

shift_zero : (o : Option Body) → o ≡ shift 0 [] o
shift_zero None = refl
shift_zero (Some b) = body_is b (record { len = 0 + b.len; value = b.value }) (omega arith) refl

pub shift_shift : (j k : ℕ) (u v : List ℕ) (o : Option Body) → shift j u (shift k v o) ≡ shift (j + k) (u ++ v) o
shift_shift j k u v None = refl
shift_shift j k u v (Some b) = body_is (record { len = j + (k + b.len); value = u ++ (v ++ b.value) }) (record {
  len =
      j + k + b.len;
  value = u ++ v ++ b.value;
}) (omega arith) (sym (append_assoc u v b.value))

longer_shift : (v : List ℕ) (o : Option Body) → longer v o ≡ shift 1 v o
longer_shift v None = refl
longer_shift v (Some b) = body_is (record { len = suc b.len; value = v ++ b.value }) (record {
  len = 1 + b.len;
  value =
      v ++ b.value;
}) (omega arith) refl

ahead_shift : (n : ℕ) (o : Option Body) → ahead n o ≡ shift n [] o
ahead_shift n None = refl
ahead_shift n (Some b) = refl

plain_run : (q : Quoted) (bs : List ℕ) (k : ℕ) → k ≤ length bs → ((i : ℕ) → i < k → is_plain (get_or bs i 0) ≡ true)
    → body_at q 0 bs ≡ shift k (take k bs) (body_at q 0 (drop k bs))
plain_run q bs zero le plain = shift_zero (body_at q 0 bs)
plain_run q [] (suc k) le plain = absurd (omega arith)
plain_run q (b ∷ bs) (suc k) le plain =
    let e : 1 + k ≡ suc k = omega arith in
    at_plain q b bs (plain 0 (omega arith))
    ∙ longer_shift (b ∷ []) (body_at q 0 bs)
    ∙ ap (shift 1 (b ∷ [])) (plain_run q bs k (omega arith) (λ i lt. plain (suc i) (omega arith)))
    ∙ shift_shift 1 k (b ∷ []) (take k bs) (body_at q 0 (drop k bs))
    ∙ ap (λ (n : ℕ). shift n (b ∷ take k bs) (body_at q 0 (drop k bs))) e

at_end : (q : Quoted) → body_at q 0 [] ≡ None
unfolding body_at
at_end q = refl

-- no mark: the body doesn't end
unmarked : (q : Quoted) (bs : List ℕ) → IsFirstByte (is_byte3 34 92 10) bs None → body_at q 0 bs ≡ None
unmarked q bs h =
    plain_run q bs (length bs) (omega arith)
    (λ i lt. no_test (is_byte3 34 92 10 (get_or bs i 0)) (h i (omega arith) lt))
    ∙ ap (λ (t : List ℕ). shift (length bs) (take (length bs) bs) (body_at q 0 t))
    (drop_all (length bs) bs (omega arith)) ∙ ap (shift (length bs) (take (length bs) bs)) (at_end q)

-- a mark at k
marked : (q : Quoted) (bs : List ℕ) (k b : ℕ) → IsFirstByte (is_byte3 34 92 10) bs (Some k) → get_or bs k 0 ≡ b
    → body_at q 0 bs ≡ shift k (take k bs) (body_at q 0 (b ∷ drop (k + 1) bs))
marked q bs k b h is =
    let within : k < length bs = h.0.high in
    plain_run q bs k (omega arith) (λ i lt. no_test (is_byte3 34 92 10 (get_or bs i 0)) (h.0.before i (omega arith) lt))
    ∙ ap (λ (t : List ℕ). shift k (take k bs) (body_at q 0 t))
    (drop_more bs k 0 within ∙ ap (λ (x : ℕ). x ∷ drop (k + 1) bs) is)

quote_marked : (q : Quoted) (bs : List ℕ) (k : ℕ) → IsFirstByte (is_byte3 34 92 10) bs (Some k) → get_or bs k 0 ≡ 34
    → body_at q 0 bs ≡ Some (record { len = k + 1; value = take k bs })
quote_marked q bs k h is =
    marked q bs k 34 h is
    ∙ ap (shift k (take k bs)) (at_quote q (drop (k + 1) bs))
    ∙ ap (λ (v : List ℕ). Some (record { len = k + 1; value = v })) (append-nil (take k bs))

newline_marked : (q : Quoted) (bs : List ℕ) (k : ℕ) → IsFirstByte (is_byte3 34 92 10) bs (Some k)
    → (get_or bs k 0 ≡ 34 → ⊥) → (get_or bs k 0 ≡ 92 → ⊥) → body_at q 0 bs ≡ None
newline_marked q bs k h no_quote no_backslash =
    marked q bs k 10 h newline ∙ ap (shift k (take k bs)) (at_newline q (drop (k + 1) bs))
  where
    go : (x y z : Bool) → eqb (get_or bs k 0) 34 ≡ x → eqb (get_or bs k 0) 92 ≡ y → eqb (get_or bs k 0) 10 ≡ z
        → get_or bs k 0 ≡ 10
    go true y z e f g = absurd (no_quote (eqb-true (get_or bs k 0) 34 e))
    go false true z e f g = absurd (no_backslash (eqb-true (get_or bs k 0) 92 f))
    go false false true e f g = eqb-true (get_or bs k 0) 10 g
    go false false false e f g = let passes : false ≡ true = rw (e, f, g) at h.1 in absurd cc

    newline : get_or bs k 0 ≡ 10
    newline = go (eqb (get_or bs k 0) 34) (eqb (get_or bs k 0) 92) (eqb (get_or bs k 0) 10) refl refl refl

-- an escape that may not stand in the literal
bad_escape : (q : Quoted) (bs : List ℕ) → option_and_then (escape_bytes q) (escape_at bs) ≡ None
    → body_at q 0 (92 ∷ bs) ≡ None
unfolding body_at
bad_escape q bs h = ap (option_and_then (λ (v : List ℕ). longer v (body_at q (escape_size (first bs)) bs))) h

-- one that may stand there, and what stands after it
record Stands (q : Quoted) (bs v : List ℕ) : Type 0 where
  within : escape_size (first bs) ≤ length bs
  body : body_at q 0 (92 ∷ bs) ≡ shift (1 + escape_size (first bs)) v (body_at q 0 (drop (escape_size (first bs)) bs))

escape_stands : (q : Quoted) (bs v : List ℕ) (e : Escape) → EscapeAt bs e
    → option_and_then (escape_bytes q) (escape_at bs) ≡ Some v → Stands q bs v
escape_stands q bs v e x bytes =
    let n = escape_size (first bs) in
    let rest : drop n bs ≡ x.rest = ap (λ (m : ℕ). drop m bs) x.size ∙ ap (drop (length x.text)) x.parts
    ∙ drop_at x.text x.rest (length x.text) refl in
    record {
      within = omega (arith, x.size, ap length x.parts, length-append x.text x.rest);
      body = at_escape q bs v bytes
          ∙ longer_shift v (body_at q n bs)
          ∙ ap (λ (m : ℕ). shift 1 v (body_at q m bs)) x.size
          ∙ ap (λ (t : List ℕ). shift 1 v (body_at q (length x.text) t)) x.parts
          ∙ ap (shift 1 v) (skipped q x.text x.rest ∙ ahead_shift (length x.text) (body_at q 0 x.rest))
          ∙ shift_shift 1 (length x.text) v [] (body_at q 0 x.rest)
          ∙ ap (λ (m : ℕ). shift (1 + m) (v ++ []) (body_at q 0 x.rest)) (sym x.size)
          ∙ ap (λ (w : List ℕ). shift (1 + n) w (body_at q 0 x.rest)) (append-nil v)
          ∙ ap (λ (t : List ℕ). shift (1 + n) v (body_at q 0 t)) (sym rest);
    }

stands : (q : Quoted) (bs v : List ℕ) → option_and_then (escape_bytes q) (escape_at bs) ≡ Some v → Stands q bs v
stands q bs v h = go (escape_at bs) refl
  where
    go : (o : Option Escape) → escape_at bs ≡ o → Stands q bs v
    go None e = none_some (ap (option_and_then (escape_bytes q)) (sym e) ∙ h)
    go (Some e) is = escape_stands q bs v e (escape_is bs e is) h

escape_marked : (q : Quoted) (bs v : List ℕ) (k : ℕ) → IsFirstByte (is_byte3 34 92 10) bs (Some k) → get_or bs k 0 ≡ 92
    → option_and_then (escape_bytes q) (escape_at (drop (k + 1) bs)) ≡ Some v
    → let n = escape_size (first (drop (k + 1) bs)) in
    body_at q 0 bs ≡ shift (k + 1 + n) (take k bs ++ v) (body_at q 0 (drop (k + 1 + n) bs))
escape_marked q bs v k h is e =
    let n = escape_size (first (drop (k + 1) bs)) in
    let s = stands q (drop (k + 1) bs) v e in
    let sum : k + (1 + n) ≡ k + 1 + n = omega arith in
    marked q bs k 92 h is
    ∙ ap (shift k (take k bs)) s.body
    ∙ shift_shift k (1 + n) (take k bs) v (body_at q 0 (drop n (drop (k + 1) bs)))
    ∙ ap (λ (m : ℕ). shift m (take k bs ++ v) (body_at q 0 (drop n (drop (k + 1) bs)))) sum
    ∙ ap (λ (t : List ℕ). shift (k + 1 + n) (take k bs ++ v) (body_at q 0 t)) (drop-drop n (k + 1) bs)

-- ---- lengths alone

-- a body's length
abbrev pub len_of : Option Body → Option ℕ
len_of o = option_map (λ (b : Body). b.len) o

-- so many bytes more
abbrev pub plus : ℕ → Option ℕ → Option ℕ
plus k o = option_map (λ (n : ℕ). k + n) o

plus_plus : (j k : ℕ) (o : Option ℕ) → plus j (plus k o) ≡ plus (j + k) o
plus_plus j k None = refl
plus_plus j k (Some n) = let e : j + (k + n) ≡ j + k + n = omega arith in ap (λ (m : ℕ). Some m) e

shift_len : (n : ℕ) (v : List ℕ) (o : Option Body) → len_of (shift n v o) ≡ plus n (len_of o)
shift_len n v None = refl
shift_len n v (Some b) = refl

from_here : (at : ℕ) (o : Option Body) → option_map (λ (b : Body). at + b.len) o ≡ plus at (len_of o)
from_here at None = refl
from_here at (Some b) = refl

-- the length of an escape that may stand in the literal
abbrev pub escape_len : Quoted → List ℕ → Option ℕ
escape_len q bs = option_map (λ (_ : List ℕ). escape_size (first bs)) (option_and_then (escape_bytes q) (escape_at bs))

no_len : (q : Quoted) (bs : List ℕ) → escape_len q bs ≡ None → option_and_then (escape_bytes q) (escape_at bs) ≡ None
no_len q bs h = go (option_and_then (escape_bytes q) (escape_at bs)) refl
  where
    go : (o : Option (List ℕ)) → option_and_then (escape_bytes q) (escape_at bs) ≡ o
        → option_and_then (escape_bytes q) (escape_at bs) ≡ None
    go None e = e
    go (Some v) e = none_some (sym (ap (option_map (λ (_ : List ℕ). escape_size (first bs))) (sym e) ∙ h))

record HasLen (q : Quoted) (bs : List ℕ) (n : ℕ) : Type 0 where
  v : List ℕ
  is : option_and_then (escape_bytes q) (escape_at bs) ≡ Some v
  size : escape_size (first bs) ≡ n

has_len : (q : Quoted) (bs : List ℕ) (n : ℕ) → escape_len q bs ≡ Some n → HasLen q bs n
has_len q bs n h = go (option_and_then (escape_bytes q) (escape_at bs)) refl
  where
    go : (o : Option (List ℕ)) → option_and_then (escape_bytes q) (escape_at bs) ≡ o → HasLen q bs n
    go None e = none_some (ap (option_map (λ (_ : List ℕ). escape_size (first bs))) (sym e) ∙ h)
    go (Some v) e = let both : Some (escape_size (first bs)) ≡ Some n =
        ap (option_map (λ (_ : List ℕ). escape_size (first bs))) (sym e) ∙ h in record { v = v; is = e; size = cc }

-- ---- the loop

-- the search for a mark in what is left found this
abbrev pub Searched : List ℕ → ℕ → Option ℕ → Type 0
Searched text at r = IsFirstByte (is_byte3 34 92 10) (take (length text - at) (drop at text)) r

searched : (text : List ℕ) (at : ℕ) (r : Option ℕ) → Searched text at r
    → IsFirstByte (is_byte3 34 92 10) (drop at text) r
searched text at r h = subst (λ (t : List ℕ). IsFirstByte (is_byte3 34 92 10) t r) (take_rest text at) h

rest_from : (text : List ℕ) (at k : ℕ)
    → take (length text - (at + k + 1)) (drop (at + k + 1) text) ≡ drop (k + 1) (drop at text)
rest_from text at k = let n : at + k + 1 ≡ at + (k + 1) = omega arith in
    take_rest text (at + k + 1) ∙ ap (λ (m : ℕ). drop m text) n ∙ sym (drop-drop (k + 1) at text)

-- what is left of the body, after the bytes up to at, is as long as the body of the text without them
abbrev pub IsLeft : Quoted → List ℕ → ℕ → Type 0
IsLeft q text at = option_map (λ (b : Body). at + b.len) (body_at q 0 (drop at text)) ≡ len_of (body_at q 0 text)

whole : (q : Quoted) (text : List ℕ) (at : ℕ) (o : Option Body) → IsLeft q text at → body_at q 0 (drop at text) ≡ o
    → len_of (body_at q 0 text) ≡ plus at (len_of o)
whole q text at o left e = sym left ∙ from_here at (body_at q 0 (drop at text))
    ∙ ap (λ (x : Option Body). plus at (len_of x)) e

pub quote_ends : (q : Quoted) (text : List ℕ) (at k : ℕ) → IsLeft q text at → Searched text at (Some k)
    → get_or text (at + k) 0 ≡ 34 → Some (at + k + 1) ≡ len_of (body_at q 0 text)
quote_ends q text at k left h is =
    let n : at + (k + 1) ≡ at + k + 1 = omega arith in
    sym (whole q text at _ left
    (quote_marked q (drop at text) k (searched text at (Some k) h) (get_or-drop at text k 0 ∙ is))
    ∙ ap (λ (m : ℕ). Some m) n)

pub newline_ends : (q : Quoted) (text : List ℕ) (at k : ℕ) → IsLeft q text at → Searched text at (Some k)
    → (get_or text (at + k) 0 ≡ 34 → ⊥) → (get_or text (at + k) 0 ≡ 92 → ⊥) → None ≡ len_of (body_at q 0 text)
newline_ends q text at k left h no_quote no_backslash =
    let byte = get_or-drop at text k 0 in
    sym
    (whole q text at _ left (newline_marked q (drop at text) k (searched text at (Some k) h) (λ e. no_quote (sym byte
    ∙ e)) (λ e. no_backslash (sym byte ∙ e))))

pub nothing_ends : (q : Quoted) (text : List ℕ) (at : ℕ) → IsLeft q text at → Searched text at None
    → None ≡ len_of (body_at q 0 text)
nothing_ends q text at left h = sym (whole q text at _ left (unmarked q (drop at text) (searched text at None h)))

pub escape_ends : (q : Quoted) (text : List ℕ) (at k : ℕ) → IsLeft q text at → Searched text at (Some k)
    → get_or text (at + k) 0 ≡ 92 → None ≡ escape_len q (take (length text - (at + k + 1)) (drop (at + k + 1) text))
    → None ≡ len_of (body_at q 0 text)
escape_ends q text at k left h is e =
    let none = no_len q (drop (k + 1) (drop at text)) (ap (escape_len q) (sym (rest_from text at k)) ∙ sym e) in
    sym
    (whole q text at _ left (marked q (drop at text) k 92 (searched text at (Some k) h) (get_or-drop at text k 0 ∙ is)
    ∙ ap (shift k (take k (drop at text))) (bad_escape q (drop (k + 1) (drop at text)) none)))

pub escape_goes_on : (q : Quoted) (text : List ℕ) (at k n : ℕ) → IsLeft q text at → Searched text at (Some k)
    → get_or text (at + k) 0 ≡ 92 → Some n ≡ escape_len q (take (length text - (at + k + 1)) (drop (at + k + 1) text))
    → IsLeft q text (at + k + 1 + n)
escape_goes_on q text at k n left h is e =
    let bs = drop at text in
    let l = has_len q (drop (k + 1) bs) n (ap (escape_len q) (sym (rest_from text at k)) ∙ sym e) in
    let m : at + (k + 1 + n) ≡ at + k + 1 + n = omega arith in
    let rest : drop (k + 1 + n) bs ≡ drop (at + k + 1 + n) text =
    drop-drop (k + 1 + n) at text ∙ ap (λ (x : ℕ). drop x text) m in
    let body : body_at q 0 bs ≡ shift (k + 1 + n) (take k bs ++ l.v) (body_at q 0 (drop (k + 1 + n) bs)) =
    escape_marked q bs l.v k (searched text at (Some k) h) (get_or-drop at text k 0 ∙ is) l.is
    ∙ ap (λ (x : ℕ). shift (k + 1 + x) (take k bs ++ l.v) (body_at q 0 (drop (k + 1 + x) bs))) l.size in
    from_here (at + k + 1 + n) (body_at q 0 (drop (at + k + 1 + n) text))
    ∙ sym (whole q text at _ left body
    ∙ ap (plus at) (shift_len (k + 1 + n) (take k bs ++ l.v) (body_at q 0 (drop (k + 1 + n) bs)))
    ∙ plus_plus at (k + 1 + n) (len_of (body_at q 0 (drop (k + 1 + n) bs)))
    ∙ ap (λ (x : ℕ). plus x (len_of (body_at q 0 (drop (k + 1 + n) bs)))) m
    ∙ ap (λ (t : List ℕ). plus (at + k + 1 + n) (len_of (body_at q 0 t))) rest)

-- ---- the loop that decodes

-- what is left of the body, after the bytes up to at, which stand for this value, is the body of the text
abbrev pub IsDecoded : Quoted → List ℕ → ℕ → List ℕ → Type 0
IsDecoded q text at value = shift at value (body_at q 0 (drop at text)) ≡ body_at q 0 text

pub quote_closes : (q : Quoted) (text : List ℕ) (at k : ℕ) (value : List ℕ) → IsDecoded q text at value
    → Searched text at (Some k) → get_or text (at + k) 0 ≡ 34
    → body_at q 0 text ≡ Some (record { len = at + (k + 1); value = value ++ take k (drop at text) })
quote_closes q text at k value left h is =
    sym left ∙ ap (shift at value) (quote_marked q (drop at text) k (searched text at
    (Some k) h) (get_or-drop at text k 0 ∙ is))

pub newline_closes : (q : Quoted) (text : List ℕ) (at k : ℕ) (value : List ℕ) → IsDecoded q text at value
    → Searched text at (Some k) → (get_or text (at + k) 0 ≡ 34 → ⊥) → (get_or text (at + k) 0 ≡ 92 → ⊥)
    → body_at q 0 text ≡ None
newline_closes q text at k value left h no_quote no_backslash =
    let byte = get_or-drop at text k 0 in
    sym left
    ∙ ap (shift at value) (newline_marked q (drop at text) k (searched text at (Some k) h) (λ e. no_quote (sym byte
    ∙ e)) (λ e. no_backslash (sym byte ∙ e)))

pub nothing_closes : (q : Quoted) (text : List ℕ) (at : ℕ) (value : List ℕ) → IsDecoded q text at value
    → Searched text at None → body_at q 0 text ≡ None
nothing_closes q text at value left h =
    sym left ∙ ap (shift at value) (unmarked q (drop at text) (searched text at None h))

pub escape_closes : (q : Quoted) (text : List ℕ) (at k : ℕ) (value : List ℕ) → IsDecoded q text at value
    → Searched text at (Some k) → get_or text (at + k) 0 ≡ 92 → None ≡ option_and_then (escape_bytes q)
    (escape_at (take (length text - (at + k + 1)) (drop (at + k + 1) text))) → body_at q 0 text ≡ None
escape_closes q text at k value left h is e =
    let none =
    ap (λ (t : List ℕ). option_and_then (escape_bytes q) (escape_at t)) (sym (rest_from text at k)) ∙ sym e in
    sym left
    ∙ ap (shift at value) (marked q (drop at text) k 92 (searched text at (Some k) h) (get_or-drop at text k 0 ∙ is)
    ∙ ap (shift k (take k (drop at text))) (bad_escape q (drop (k + 1) (drop at text)) none))

pub escape_decodes : (q : Quoted) (text : List ℕ) (at k n : ℕ) (value v : List ℕ) → IsDecoded q text at value
    → Searched text at (Some k) → get_or text (at + k) 0 ≡ 92
    → Some v ≡ option_and_then (escape_bytes q) (escape_at (take (length text - (at + k + 1)) (drop (at + k + 1) text)))
    → n ≡ escape_size (first (take (length text - (at + k + 1)) (drop (at + k + 1) text)))
    → IsDecoded q text (at + k + 1 + n) (value ++ take k (drop at text) ++ v)
escape_decodes q text at k n value v left h is e size =
    let bs = drop at text in
    let some =
    ap (λ (t : List ℕ). option_and_then (escape_bytes q) (escape_at t)) (sym (rest_from text at k)) ∙ sym e in
    let n_is : escape_size (first (drop (k + 1) bs)) ≡ n =
    ap (λ (t : List ℕ). escape_size (first t)) (sym (rest_from text at k)) ∙ sym size in
    let m : at + (k + 1 + n) ≡ at + k + 1 + n = omega arith in
    let rest : drop (k + 1 + n) bs ≡ drop (at + k + 1 + n) text =
    drop-drop (k + 1 + n) at text ∙ ap (λ (x : ℕ). drop x text) m in
    let body : body_at q 0 bs ≡ shift (k + 1 + n) (take k bs ++ v) (body_at q 0 (drop (k + 1 + n) bs)) =
    escape_marked q bs v k (searched text at (Some k) h) (get_or-drop at text k 0 ∙ is) some
    ∙ ap (λ (x : ℕ). shift (k + 1 + x) (take k bs ++ v) (body_at q 0 (drop (k + 1 + x) bs))) n_is in
    sym (sym left ∙ ap (shift at value) body
    ∙ shift_shift at (k + 1 + n) value (take k bs ++ v) (body_at q 0 (drop (k + 1 + n) bs))
    ∙ ap (λ (x : ℕ). shift x (value ++ (take k bs ++ v)) (body_at q 0 (drop (k + 1 + n) bs))) m
    ∙ ap (λ (w : List ℕ). shift (at + k + 1 + n) w (body_at q 0 (drop (k + 1 + n) bs)))
    (sym (append_assoc value (take k bs) v))
    ∙ ap (λ (t : List ℕ). shift (at + k + 1 + n) (value ++ take k bs ++ v) (body_at q 0 t)) rest)

-- the value of a body that is the whole text, or that isn't
pub closes_whole : (q : Quoted) (text : List ℕ) (at k : ℕ) (value : List ℕ) → IsDecoded q text at value
    → Searched text at (Some k) → get_or text (at + k) 0 ≡ 34 → at + k + 1 ≡ length text
    → Some (value ++ take k (drop at text)) ≡ whole_value (length text) (body_at q 0 text)
closes_whole q text at k value left h is len =
    let n : at + (k + 1) ≡ length text = omega (arith, len) in
    let yes : eqb (at + (k + 1)) (length text) ≡ true = eq-eqb (at + (k + 1)) (length text) n in
    sym (ap (whole_value (length text)) (quote_closes q text at k value left h is) ∙ rw yes refl)

not_eqb : (a b : ℕ) → (a ≡ b → ⊥) → eqb a b ≡ false
not_eqb a b h = go (eqb a b) refl
  where
    go : (x : Bool) → eqb a b ≡ x → eqb a b ≡ false
    go true e = absurd (h (eqb-true a b e))
    go false e = e

pub closes_early : (q : Quoted) (text : List ℕ) (at k : ℕ) (value : List ℕ) → IsDecoded q text at value
    → Searched text at (Some k) → (get_or text (at + k) 0 ≡ 34 → at + k + 1 ≡ length text → ⊥)
    → (get_or text (at + k) 0 ≡ 92 → ⊥) → None ≡ whole_value (length text) (body_at q 0 text)
closes_early q text at k value left h not_whole no_backslash = go (eqb (get_or text (at + k) 0) 34) refl
  where
    early : get_or text (at + k) 0 ≡ 34 → eqb (at + (k + 1)) (length text) ≡ false
    early is = not_eqb (at + (k + 1)) (length text) (λ e. not_whole is (omega (arith, e)))

    go : (x : Bool) → eqb (get_or text (at + k) 0) 34 ≡ x → None ≡ whole_value (length text) (body_at q 0 text)
    go true e = let is = eqb-true (get_or text (at + k) 0) 34 e in sym (ap (whole_value (length text))
        (quote_closes q text at k value left h is) ∙ rw (early is) refl)
    go false e =
        ap (whole_value (length text)) (sym (newline_closes q text at k value left h (λ is. apart_tests (sym (eq-eqb
        (get_or text (at + k) 0) 34 is) ∙ e)) no_backslash))
      where
        apart_tests : true ≡ false → ⊥
        apart_tests e = cc

pub first_is : (bs : List ℕ) → get_or bs 0 0 ≡ first bs
first_is [] = refl
first_is (b ∷ bs) = refl

-- the part of a text between two marks
pub run_is : (text : List ℕ) (at k : ℕ) → take (at + k - at) (drop at text) ≡ take k (drop at text)
run_is text at k = let n : at + k - at ≡ k = omega arith in ap (λ (m : ℕ). take m (drop at text)) n
