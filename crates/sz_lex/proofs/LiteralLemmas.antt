-- A literal between double quotes is read as it is written, and no other way.
use Rattle.std.proofs.Common.{◌≡◌, ℕ, zero, suc, ◌+◌, ◌≤◌, ◌<◌, Bool, true, false, cond, eqb, List, [], ◌∷◌, ◌++◌, length, take, drop}
use Rattle.std.proofs.Common.{Option, Some, None, refl, sym, ap, subst, ◌∙◌, append_assoc, arith}
use Rattle.std.proofs.lemmas.List.{take_at, length-append, take-append-drop}
use Rattle.std.proofs.lemmas.Bool.{eqb-true}
use Rattle.std.specs.Option.{option_map, option_and_then}
use Rattle.sz_lex.specs.declared.escape.Escape.{Escape}
use Rattle.sz_lex.specs.declared.escape.Quoted.{Quoted}
use Rattle.sz_lex.specs.Literals.{letter_escape, escape_of, escape_bytes, Part, plain, escape, parts_text, is_plain, part_value, parts_value}
use Rattle.sz_lex.specs.Reading.{escape_size, escape_at, first, Body, longer, body_at}

-- ---- escapes

pub none_some : {A : Type 0} {x : A} {B : Type 0} → None ≡ Some x → B
none_some e = absurd cc

-- an escape of one letter is no x and no u
letter_size : (k : ℕ) (e : Escape) → letter_escape k ≡ Some e → escape_size k ≡ 1
letter_size k e h = go (eqb k 120) (eqb k 117) refl refl
  where
    at_x : eqb k 120 ≡ true → escape_size k ≡ 1
    at_x x = none_some (subst (λ (m : ℕ). letter_escape m ≡ Some e) (eqb-true k 120 x) h)

    at_u : eqb k 117 ≡ true → escape_size k ≡ 1
    at_u x = none_some (subst (λ (m : ℕ). letter_escape m ≡ Some e) (eqb-true k 117 x) h)

    go : (x y : Bool) → eqb k 120 ≡ x → eqb k 117 ≡ y → escape_size k ≡ 1
    go true y p q = at_x p
    go false true p q = at_u q
    go false false p q = rw (p, q) refl

x_size : (k : ℕ) (o : Option Escape) (e : Escape) → cond (eqb k 120) o None ≡ Some e → escape_size k ≡ 3
x_size k o e h = go (eqb k 120) refl
  where
    go : (x : Bool) → eqb k 120 ≡ x → escape_size k ≡ 3
    go true p = rw p refl
    go false p = let none : None ≡ Some e = rw p at h in absurd cc

u_size : (k : ℕ) (o : Option Escape) (e : Escape) → cond (eqb k 117) o None ≡ Some e → escape_size k ≡ 5
u_size k o e h = go (eqb k 117) refl
  where
    go : (x : Bool) → eqb k 117 ≡ x → escape_size k ≡ 5
    go true p = let same : k ≡ 117 = eqb-true k 117 p in rw same refl
    go false p = let none : None ≡ Some e = rw p at h in absurd cc

-- the first byte of an escape tells its length
pub size_of : (text : List ℕ) (e : Escape) → escape_of text ≡ Some e → escape_size (first text) ≡ length text
size_of [] e h = none_some h
size_of (k ∷ []) e h = letter_size k e h
size_of (k ∷ a ∷ []) e h = none_some h
size_of (k ∷ a ∷ b ∷ []) e h = x_size k _ e h
size_of (k ∷ a ∷ b ∷ c ∷ []) e h = none_some h
size_of (k ∷ a ∷ b ∷ c ∷ d ∷ []) e h = u_size k _ e h
size_of (k ∷ a ∷ b ∷ c ∷ d ∷ f ∷ g) e h = none_some h

-- what is an escape is read
pub escape_read : (text rest : List ℕ) (e : Escape) → escape_of text ≡ Some e → escape_at (text ++ rest) ≡ Some e
escape_read [] rest e h = none_some h
escape_read (k ∷ t) rest e h = ap escape_of (take_at (k ∷ t) rest (escape_size k) (sym (size_of (k ∷ t) e h))) ∙ h

pub first_front : (text rest : List ℕ) (e : Escape) → escape_of text ≡ Some e
    → escape_size (first (text ++ rest)) ≡ length text
first_front [] rest e h = none_some h
first_front (k ∷ t) rest e h = size_of (k ∷ t) e h

-- an escape at the front, and what follows it
pub record EscapeAt (bs : List ℕ) (e : Escape) : Type 0 where
  pub text : List ℕ
  pub rest : List ℕ
  pub parts : bs ≡ text ++ rest
  pub is : escape_of text ≡ Some e
  pub size : escape_size (first bs) ≡ length text

size_positive : (k : ℕ) → 0 < escape_size k
size_positive k = go (eqb k 120) (eqb k 117) refl refl
  where
    go : (x y : Bool) → eqb k 120 ≡ x → eqb k 117 ≡ y → 0 < escape_size k
    go true y p q = rw p (omega arith)
    go false true p q = rw (p, q) (omega arith)
    go false false p q = rw (p, q) (omega arith)

first_take : (n k : ℕ) (bs : List ℕ) → 0 < n → first (take n (k ∷ bs)) ≡ k
first_take zero k bs h = absurd (omega arith)
first_take (suc n) k bs h = refl

-- what is read is an escape
pub escape_is : (bs : List ℕ) (e : Escape) → escape_at bs ≡ Some e → EscapeAt bs e
escape_is [] e h = none_some h
escape_is (k ∷ bs) e h =
    let n = escape_size k in
    record {
      text = take n (k ∷ bs);
      rest = drop n (k ∷ bs);
      parts = sym (take-append-drop n (k ∷ bs));
      is = h;
      size = ap escape_size (sym (first_take n k bs (size_positive k))) ∙ size_of (take n (k ∷ bs)) e h;
    }

-- ---- bodies

-- a body after so many bytes more
abbrev pub ahead : ℕ → Option Body → Option Body
ahead n o = option_map (λ (b : Body). record { len = n + b.len; value = b.value }) o

longer_ahead : (n : ℕ) (o : Option Body) → longer [] (ahead n o) ≡ ahead (suc n) o
longer_ahead n None = refl
longer_ahead n (Some b) = let e : suc (n + b.len) ≡ suc n + b.len = omega arith in
    ap (λ (m : ℕ). Some (record { len = m; value = b.value })) e

ahead_zero : (o : Option Body) → o ≡ ahead 0 o
ahead_zero None = refl
ahead_zero (Some b) = let e : b.len ≡ 0 + b.len = omega arith in
    ap (λ (m : ℕ). Some (record { len = m; value = b.value })) e

-- bytes of an escape are passed
pub skipped : (q : Quoted) (l more : List ℕ) → body_at q (length l) (l ++ more) ≡ ahead (length l) (body_at q 0 more)
unfolding body_at
skipped q [] more = ahead_zero (body_at q 0 more)
skipped q (b ∷ l) more = ap (longer []) (skipped q l more) ∙ longer_ahead (length l) (body_at q 0 more)

pub at_quote : (q : Quoted) (rest : List ℕ) → body_at q 0 (34 ∷ rest) ≡ Some (record { len = 1; value = [] })
unfolding body_at
at_quote q rest = refl

pub at_newline : (q : Quoted) (rest : List ℕ) → body_at q 0 (10 ∷ rest) ≡ None
unfolding body_at
at_newline q rest = refl

pub at_escape : (q : Quoted) (bs : List ℕ) (v : List ℕ) → option_and_then (escape_bytes q) (escape_at bs) ≡ Some v
    → body_at q 0 (92 ∷ bs) ≡ longer v (body_at q (escape_size (first bs)) bs)
unfolding body_at
at_escape q bs v e = ap (option_and_then (λ (v : List ℕ). longer v (body_at q (escape_size (first bs)) bs))) e

plain_tests : (b : ℕ) → is_plain b ≡ true → (eqb b 34 ≡ false) × (eqb b 92 ≡ false) × (eqb b 10 ≡ false)
plain_tests b h = go (eqb b 34) (eqb b 92) (eqb b 10) refl refl refl
  where
    go : (x y z : Bool) → eqb b 34 ≡ x → eqb b 92 ≡ y → eqb b 10 ≡ z
        → (eqb b 34 ≡ false) × (eqb b 92 ≡ false) × (eqb b 10 ≡ false)
    go true y z p q r = let no : false ≡ true = rw p at h in absurd cc
    go false true z p q r = let no : false ≡ true = rw (p, q) at h in absurd cc
    go false false true p q r = let no : false ≡ true = rw (p, q, r) at h in absurd cc
    go false false false p q r = (p, q, r)

pub at_plain : (q : Quoted) (b : ℕ) (bs : List ℕ) → is_plain b ≡ true
    → body_at q 0 (b ∷ bs) ≡ longer (b ∷ []) (body_at q 0 bs)
unfolding body_at
at_plain q b bs h = let t = plain_tests b h in rw (t.0, t.1, t.2) refl

-- the value of one part more
value_step : (q : Quoted) (p : Part) (ps : List Part) (v vs : List ℕ) → part_value q p ≡ Some v
    → parts_value q ps ≡ Some vs → parts_value q (p ∷ ps) ≡ Some (v ++ vs)
value_step q p ps v vs e f = rw e (rw f refl)

-- the values of a part and of those after it
pub record Values (q : Quoted) (p : Part) (ps : List Part) (value : List ℕ) : Type 0 where
  pub v : List ℕ
  pub vs : List ℕ
  pub one : part_value q p ≡ Some v
  pub more : parts_value q ps ≡ Some vs
  pub joined : value ≡ v ++ vs

pub values_of : (q : Quoted) (p : Part) (ps : List Part) (value : List ℕ) → parts_value q (p ∷ ps) ≡ Some value
    → Values q p ps value
values_of q p ps value h = go (part_value q p) (parts_value q ps) refl refl
  where
    go : (o m : Option (List ℕ)) → part_value q p ≡ o → parts_value q ps ≡ m → Values q p ps value
    go None m e f = let no : None ≡ Some value = rw e at h in none_some no
    go (Some v) None e f = let no : None ≡ Some value = rw f at (rw e at h) in none_some no
    go (Some v) (Some vs) e f = let is : Some (v ++ vs) ≡ Some value = rw f at (rw e at h) in record {
      v = v;
      vs = vs;
      one =
          e;
      more = f;
      joined = cc;
    }

-- the value of an escape, and the escape
pub record Escaped (q : Quoted) (text v : List ℕ) : Type 0 where
  pub e : Escape
  pub is : escape_of text ≡ Some e
  pub bytes : escape_bytes q e ≡ Some v

pub escaped_of : (q : Quoted) (text v : List ℕ) → option_and_then (escape_bytes q) (escape_of text) ≡ Some v
    → Escaped q text v
escaped_of q text v h = go (escape_of text) refl
  where
    go : (o : Option Escape) → escape_of text ≡ o → Escaped q text v
    go None e = let no : None ≡ Some v = rw e at h in none_some no
    go (Some x) e = let is : escape_bytes q x ≡ Some v = rw e at h in record { e = x; is = e; bytes = is }

plain_is : (b : ℕ) (v : List ℕ) → cond (is_plain b) (Some (b ∷ [])) None ≡ Some v → is_plain b ≡ true
plain_is b v h = go (is_plain b) refl
  where
    go : (x : Bool) → is_plain b ≡ x → is_plain b ≡ true
    go true e = e
    go false e = let no : None ≡ Some v = rw e at h in none_some no

pub plain_value : (b : ℕ) (v : List ℕ) → cond (is_plain b) (Some (b ∷ [])) None ≡ Some v → b ∷ [] ≡ v
plain_value b v h = let is : Some (b ∷ []) ≡ Some v = rw (plain_is b v h) at h in cc

-- what is written as parts is read
pub body_read : (q : Quoted) (ps : List Part) (rest value : List ℕ) → parts_value q ps ≡ Some value
    → body_at q 0 (parts_text ps ++ (34 ∷ rest)) ≡ Some (record { len = suc (length (parts_text ps)); value = value })
body_read q [] rest value h =
    at_quote q rest ∙ (let e : [] ≡ value = cc in ap (λ (v : List ℕ). Some (record { len = 1; value = v })) e)
body_read q (plain b ∷ ps) rest value h =
    let vs = values_of q (plain b) ps value h in
    let p : is_plain b ≡ true = plain_is b vs.v vs.one in
    at_plain q b (parts_text ps ++ (34 ∷ rest)) p
    ∙ ap (longer (b ∷ [])) (body_read q ps rest vs.vs vs.more)
    ∙ ap (λ (v : List ℕ). Some (record {
      len = suc (suc (length (parts_text ps)));
      value =
          v;
    })) (ap (λ (v : List ℕ). v ++ vs.vs) (plain_value b vs.v vs.one) ∙ sym vs.joined)
body_read q (escape text ∷ ps) rest value h =
    let vs = values_of q (escape text) ps value h in
    let es = escaped_of q text vs.v vs.one in
    let more = parts_text ps ++ (34 ∷ rest) in
    let seen : option_and_then (escape_bytes q) (escape_at (text ++ more)) ≡ Some vs.v =
    ap (option_and_then (escape_bytes q)) (escape_read text more es.e es.is) ∙ es.bytes in
    let n : suc (length text + suc (length (parts_text ps))) ≡ suc (suc (length (text ++ parts_text ps))) =
    omega (arith, length-append text (parts_text ps)) in
    ap (λ (t : List ℕ). body_at q 0 (92 ∷ t)) (append_assoc text (parts_text ps) (34 ∷ rest))
    ∙ at_escape q (text ++ more) vs.v seen
    ∙ ap (λ (m : ℕ). longer vs.v (body_at q m (text ++ more))) (first_front text more es.e es.is)
    ∙ ap (longer vs.v) (skipped q text more ∙ ap (ahead (length text)) (body_read q ps rest vs.vs vs.more))
    ∙ ap (λ (m : ℕ). Some (record { len = m; value = vs.v ++ vs.vs })) n
    ∙ ap (λ (v : List ℕ). Some (record { len = suc (suc (length (text ++ parts_text ps))); value = v })) (sym vs.joined)

-- parts at the front, and what follows the closing quote
pub record BodyAt (q : Quoted) (bs : List ℕ) (b : Body) : Type 0 where
  pub ps : List Part
  pub rest : List ℕ
  pub text : bs ≡ parts_text ps ++ (34 ∷ rest)
  pub len : b.len ≡ suc (length (parts_text ps))
  pub value : parts_value q ps ≡ Some b.value

-- a body that is longer than another
record Longer (v : List ℕ) (o : Option Body) (b : Body) : Type 0 where
  rest : Body
  is : o ≡ Some rest
  len : b.len ≡ suc rest.len
  value : b.value ≡ v ++ rest.value

longer_of : (v : List ℕ) (o : Option Body) (b : Body) → longer v o ≡ Some b → Longer v o b
longer_of v None b h = none_some h
longer_of v (Some r) b h = let same : record { len = suc r.len; value = v ++ r.value } ≡ b = some_is h in record {
  rest = r;
  is =
      refl;
  len = ap (λ (b : Body). b.len) (sym same);
  value = ap (λ (b : Body). b.value) (sym same);
}
  where
    some_is : {x y : Body} → Some x ≡ Some y → x ≡ y
    some_is e = cc

record Ahead (n : ℕ) (o : Option Body) (b : Body) : Type 0 where
  rest : Body
  is : o ≡ Some rest
  len : b.len ≡ n + rest.len
  value : b.value ≡ rest.value

ahead_of : (n : ℕ) (o : Option Body) (b : Body) → ahead n o ≡ Some b → Ahead n o b
ahead_of n None b h = none_some h
ahead_of n (Some r) b h = let same : record { len = n + r.len; value = r.value } ≡ b = some_is h in record {
  rest = r;
  is =
      refl;
  len = ap (λ (b : Body). b.len) (sym same);
  value = ap (λ (b : Body). b.value) (sym same);
}
  where
    some_is : {x y : Body} → Some x ≡ Some y → x ≡ y
    some_is e = cc

abbrev Again : Quoted → ℕ → Type 0
Again q n = (bs : List ℕ) (b : Body) → length bs ≤ n → body_at q 0 bs ≡ Some b → BodyAt q bs b

plain_body : (q : Quoted) (n : ℕ) → Again q n → (c : ℕ) (bs : List ℕ) (b : Body) → length bs ≤ n → is_plain c ≡ true
    → longer (c ∷ []) (body_at q 0 bs) ≡ Some b → BodyAt q (c ∷ bs) b
plain_body q n again c bs b le p h =
    let l = longer_of (c ∷ []) (body_at q 0 bs) b h in
    let r = again bs l.rest le l.is in
    record {
      ps = plain c ∷ r.ps;
      rest = r.rest;
      text = ap (λ (t : List ℕ). c ∷ t) r.text;
      len = l.len ∙ ap suc r.len;
      value = value_step q (plain c) r.ps (c ∷ []) l.rest.value (rw p refl) r.value
          ∙ ap (λ (v : List ℕ). Some v) (sym l.value);
    }

escape_body : (q : Quoted) (n : ℕ) → Again q n → (bs v : List ℕ) (e : Escape) (b : Body) → length bs ≤ n → EscapeAt bs e
    → escape_bytes q e ≡ Some v → longer v (body_at q (escape_size (first bs)) bs) ≡ Some b → BodyAt q (92 ∷ bs) b
escape_body q n again bs v e b le x bytes h =
    let l = longer_of v (body_at q (escape_size (first bs)) bs) b h in
    let passed : body_at q (escape_size (first bs)) bs ≡ ahead (length x.text) (body_at q 0 x.rest) =
    ap (λ (m : ℕ). body_at q m bs) x.size ∙ ap (body_at q (length x.text)) x.parts ∙ skipped q x.text x.rest in
    let a = ahead_of (length x.text) (body_at q 0 x.rest) l.rest (sym passed ∙ l.is) in
    let r = again x.rest a.rest (omega (arith, ap length x.parts, length-append x.text x.rest)) a.is in
    let one : part_value q (escape x.text) ≡ Some v = ap (option_and_then (escape_bytes q)) x.is ∙ bytes in
    record {
      ps = escape x.text ∷ r.ps;
      rest = r.rest;
      text = ap (λ (t : List ℕ). 92 ∷ t) (x.parts ∙ ap (λ (t : List ℕ). x.text ++ t) r.text
          ∙ sym (append_assoc x.text (parts_text r.ps) (34 ∷ r.rest)));
      len = omega (arith, l.len, a.len, r.len, length-append x.text (parts_text r.ps));
      value = value_step q (escape x.text) r.ps v a.rest.value one r.value
          ∙ ap (λ (w : List ℕ). Some w) (ap (λ (w : List ℕ). v ++ w) (sym a.value) ∙ sym l.value);
    }

quote_body : (q : Quoted) (bs : List ℕ) (b : Body) → Some (record { len = 1; value = [] }) ≡ Some b
    → BodyAt q (34 ∷ bs) b
quote_body q bs b h = let same : record { len = 1; value = [] } ≡ b = some_is h in record {
  ps = [];
  rest = bs;
  text = refl;
  len =
      ap (λ (b : Body). b.len) (sym same);
  value = ap (λ (b : Body). Some b.value) same;
}
  where
    some_is : {x y : Body} → Some x ≡ Some y → x ≡ y
    some_is e = cc

body_step : (q : Quoted) (n : ℕ) → Again q n → (c : ℕ) (bs : List ℕ) (b : Body) → length bs ≤ n
    → body_at q 0 (c ∷ bs) ≡ Some b → BodyAt q (c ∷ bs) b
unfolding body_at
body_step q n again c bs b le h = go (eqb c 34) (eqb c 92) (eqb c 10) refl refl refl
  where
    escaped : (o : Option Escape) → escape_at bs ≡ o → body_at q 0 (92 ∷ bs) ≡ Some b → BodyAt q (92 ∷ bs) b
    escaped None e k = let no : None ≡ Some b = rw e at k in none_some no
    escaped (Some x) e k = stands (escape_bytes q x) refl
      where
        stands : (o : Option (List ℕ)) → escape_bytes q x ≡ o → BodyAt q (92 ∷ bs) b
        stands None f = let no : None ≡ Some b = rw f at (rw e at k) in none_some no
        stands (Some v) f =
            escape_body q n again bs v x b le (escape_is bs x e) f (sym (at_escape q bs v (ap (option_and_then
            (escape_bytes q)) e ∙ f)) ∙ k)

    go : (x y z : Bool) → eqb c 34 ≡ x → eqb c 92 ≡ y → eqb c 10 ≡ z → BodyAt q (c ∷ bs) b
    go true y z p r s = let same : 34 ≡ c = sym (eqb-true c 34 p) in
        subst (λ (m : ℕ). BodyAt q (m ∷ bs) b) same (quote_body q bs b
        (rw (← same) at h))
    go false true z p r s = let same : 92 ≡ c = sym (eqb-true c 92 r) in
        subst (λ (m : ℕ). BodyAt q (m ∷ bs) b) same (escaped
        (escape_at bs) refl (subst (λ (m : ℕ). body_at q 0 (m ∷ bs) ≡ Some b) (sym same) h))
    go false false true p r s = let no : None ≡ Some b = rw (p, r, s) at h in none_some no
    go false false false p r s = plain_body q n again c bs b le (rw (p, r, s) refl) (rw (p, r, s) at h)

bodies : (q : Quoted) (n : ℕ) → Again q n
unfolding body_at
bodies q n [] b le h = none_some h
bodies q zero (c ∷ bs) b le h = absurd (omega arith)
bodies q (suc n) (c ∷ bs) b le h = body_step q n (bodies q n) c bs b (omega arith) h

-- what is read is written as parts
pub body_is : (q : Quoted) (bs : List ℕ) (b : Body) → body_at q 0 bs ≡ Some b → BodyAt q bs b
body_is q bs b h = bodies q (length bs) bs b (omega arith) h
