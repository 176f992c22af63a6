-- A character literal is read as it is written, and no other way.
use Rattle.std.proofs.Common.{◌≡◌, ◌≢◌, ℕ, suc, ◌+◌, ◌<◌, Bool, true, false, not, ◌||◌, eqb, List, [], ◌∷◌, ◌++◌, length, take, drop}
use Rattle.std.proofs.Common.{get_or, Option, Some, None, refl, sym, ap, subst, ◌∙◌, arith}
use Rattle.std.proofs.lemmas.List.{take_at, drop_at, append-nil, length-append, take-append-drop, get_or_at}
use Rattle.std.proofs.lemmas.List.Sums.{prefix_len_is}
use Rattle.std.proofs.lemmas.List.Folds.{length-prefix_len}
use Rattle.std.proofs.lemmas.Bool.{eqb-true, eq-eqb}
use Rattle.std.proofs.lemmas.Str.{inside_one, is_utf8-from_IsUtf8, IsUtf8-from_is_utf8, IsUtf8-encode, chars-encodes, encodes-chars}
use Rattle.std.proofs.lemmas.Str.{scalars-chars, length-encode, len_utf8_bounds}
use Rattle.std.specs.List.{prefix_len}
use Rattle.std.specs.Str.{is_utf8, chars, all_scalars}
use Rattle.std.specs.Char.{IsScalar, encode_utf8}
use Rattle.std.specs.Prelude.{encode_utf8_all}
use Rattle.std.specs.Option.{option_and_then}
use Rattle.sz_lex.specs.declared.escape.Escape.{Escape}
use Rattle.sz_lex.specs.Literals.{escape_of, escape_code, IsCharacter, plain, escaped}
use Rattle.sz_lex.specs.Reading.{escape_size, escape_at, first, not_quote, only_plain, plain_character, quoted_character, character_at}
use Rattle.sz_lex.proofs.LiteralLemmas.{none_some, escape_read, first_front, escape_is}
use Rattle.sz_lex.proofs.WordLemmas.{and_parts}

-- ---- a character that needs no escape

-- c is written between quotes as it is
pub record IsPlain (c : ℕ) : Type 0 where
  pub scalar : IsScalar c
  pub itself : (eqb c 39 || eqb c 92 || eqb c 10) ≡ false

pub plain_read : (c : ℕ) → IsPlain c → plain_character (encode_utf8 c) ≡ Some c
plain_read c h =
    let utf8 : is_utf8 (encode_utf8 c) ≡ true = is_utf8-from_IsUtf8 (encode_utf8 c) (IsUtf8-encode c h.scalar) in
    let one : chars (encode_utf8 c) ≡ c ∷ [] =
    ap chars (sym (append-nil (encode_utf8 c))) ∙ chars-encodes (c ∷ []) (rw h.scalar refl) in
    rw (utf8, one, h.itself) refl

record OnePlain (cs : List ℕ) (c : ℕ) : Type 0 where
  one : cs ≡ c ∷ []
  itself : (eqb c 39 || eqb c 92 || eqb c 10) ≡ false

one_plain : (cs : List ℕ) (c : ℕ) → only_plain cs ≡ Some c → OnePlain cs c
one_plain [] c h = none_some h
one_plain (d ∷ []) c h = go (eqb d 39 || eqb d 92 || eqb d 10) refl
  where
    go : (x : Bool) → (eqb d 39 || eqb d 92 || eqb d 10) ≡ x → OnePlain (d ∷ []) c
    go true e = let no : None ≡ Some c = rw e at h in none_some no
    go false e = let is : Some d ≡ Some c = rw e at h in let same : d ≡ c = cc in
        record { one = ap (λ (x : ℕ). x ∷ []) same; itself = rw (← same) e }
one_plain (d ∷ e ∷ cs) c h = none_some h

pub record PlainIs (bytes : List ℕ) (c : ℕ) : Type 0 where
  pub is : IsPlain c
  pub text : bytes ≡ encode_utf8 c

pub plain_is : (bytes : List ℕ) (c : ℕ) → plain_character bytes ≡ Some c → PlainIs bytes c
plain_is bytes c h = go (is_utf8 bytes) refl
  where
    go : (x : Bool) → is_utf8 bytes ≡ x → PlainIs bytes c
    go false e = let no : None ≡ Some c = rw e at h in none_some no
    go true e =
        let utf8 = IsUtf8-from_is_utf8 bytes e in
        let only : only_plain (chars bytes) ≡ Some c = rw e at h in
        let o = one_plain (chars bytes) c only in
        let scalars : all_scalars (c ∷ []) ≡ true = ap all_scalars (sym o.one) ∙ scalars-chars bytes utf8 in
        record {
          is = record { scalar = (and_parts _ true scalars).0; itself = o.itself };
          text = sym (encodes-chars bytes utf8) ∙ ap encode_utf8_all o.one ∙ append-nil (encode_utf8 c);
        }

-- ---- the closing quote

record Closed (o : Option ℕ) (n : ℕ) (rest : List ℕ) (c m : ℕ) : Type 0 where
  is : o ≡ Some c
  len : m ≡ n + 1
  quote : rest ≡ 39 ∷ drop 1 rest

closed_of : (o : Option ℕ) (n : ℕ) (rest : List ℕ) (c m : ℕ) → quoted_character o n rest ≡ Some (c, m)
    → Closed o n rest c m
closed_of None n rest c m h = none_some h
closed_of (Some d) n [] c m h = none_some h
closed_of (Some d) n (b ∷ rest) c m h = go (eqb b 39) refl
  where
    go : (x : Bool) → eqb b 39 ≡ x → Closed (Some d) n (b ∷ rest) c m
    go false e = let no : None ≡ Some (c, m) = rw e at h in none_some no
    go true e =
        let is : Some (d, n + 1) ≡ Some (c, m) = rw e at h in
        let pair : (d, n + 1) ≡ (c, m) = some_is is in
        record {
          is = ap (λ (p : ℕ × ℕ). Some p.0) pair;
          len = sym (ap (λ (p : ℕ × ℕ). p.1) pair);
          quote =
              ap (λ (x : ℕ). x ∷ rest) (eqb-true b 39 e);
        }
      where
        some_is : {x y : ℕ × ℕ} → Some x ≡ Some y → x ≡ y
        some_is e = cc

closed_read : (o : Option ℕ) (n : ℕ) (rest : List ℕ) (c : ℕ) → o ≡ Some c
    → quoted_character o n (39 ∷ rest) ≡ Some (c, n + 1)
closed_read o n rest c e = ap (λ (x : Option ℕ). quoted_character x n (39 ∷ rest)) e

-- ---- the literal

-- a character after an opening quote, and what follows the closing one
pub record CharacterAt (bs : List ℕ) (c n : ℕ) : Type 0 where
  pub body : List ℕ
  pub rest : List ℕ
  pub parts : bs ≡ body ++ (39 ∷ rest)
  pub len : n ≡ length body + 1
  pub is : IsCharacter (39 ∷ (body ++ (39 ∷ []))) c

plain_case : (b : ℕ) (bs : List ℕ) → eqb b 92 ≡ false → let n =
    prefix_len not_quote (b ∷ bs) in
    character_at (b ∷ bs) ≡ quoted_character (plain_character (take n (b ∷ bs))) n (drop n (b ∷ bs))
plain_case b bs e = rw e refl

-- a text's character literal is read
pub escaped_read : (text rest : List ℕ) (c : ℕ) → option_and_then escape_code (escape_of text) ≡ Some c
    → character_at (92 ∷ (text ++ (39 ∷ rest))) ≡ Some (c, suc (length text) + 1)
escaped_read text rest c h = go (escape_of text) refl
  where
    go : (o : Option Escape) → escape_of text ≡ o
        → character_at (92 ∷ (text ++ (39 ∷ rest))) ≡ Some (c, suc (length text) + 1)
    go None e = let no : None ≡ Some c = rw e at h in none_some no
    go (Some x) e =
        let more = 39 ∷ rest in
        let code : option_and_then escape_code (escape_at (text ++ more)) ≡ Some c =
        ap (option_and_then escape_code) (escape_read text more x e ∙ sym e) ∙ h in
        let size : escape_size (first (text ++ more)) ≡ length text = first_front text more x e in
        let n : 1 + length text ≡ suc (length text) = omega arith in
        ap (λ (k : ℕ). quoted_character (option_and_then escape_code (escape_at (text ++ more))) (1 + k)
        (drop k (text ++ more))) size ∙ ap (λ (t : List ℕ).
        quoted_character (option_and_then escape_code (escape_at (text ++ more))) (1 + length text) t)
        (drop_at text more (length text) refl)
        ∙ closed_read _ (1 + length text) rest c code
        ∙ ap (λ (k : ℕ). Some (c, k + 1)) n

-- a character's bytes have no quote inside, and do not begin with a backslash
plain_byte : (c : ℕ) → IsPlain c → (rest : List ℕ) (k : ℕ) → k < length (encode_utf8 c) → (d : ℕ) → d < 128
    → eqb c d ≡ false → get_or (encode_utf8 c ++ rest) k 0 ≢ d
plain_byte c h rest k lt d low other is =
    let same : c ≡ d = inside_one c rest (encode_utf8 c ++ rest) k refl lt (rw is low) ∙ is in
    let yes : eqb c d ≡ true = eq-eqb c d same in
    absurd cc

or_parts : (x y z : Bool) → (x || y || z) ≡ false → (x ≡ false) × (y ≡ false)
or_parts true y z h = absurd cc
or_parts false true z h = absurd cc
or_parts false false z h = (refl, refl)

not_eqb : (a d : ℕ) → a ≢ d → eqb a d ≡ false
not_eqb a d h = go (eqb a d) refl
  where
    go : (x : Bool) → eqb a d ≡ x → eqb a d ≡ false
    go true e = absurd (h (eqb-true a d e))
    go false e = e

quote_place : (c : ℕ) → IsPlain c → (rest : List ℕ)
    → prefix_len not_quote (encode_utf8 c ++ (39 ∷ rest)) ≡ length (encode_utf8 c)
quote_place c h rest =
    let bs = encode_utf8 c ++ (39 ∷ rest) in
    let n = length (encode_utf8 c) in
    let parts = or_parts (eqb c 39) (eqb c 92) (eqb c 10) h.itself in
    prefix_len_is not_quote bs n 0 (omega (arith, length-append (encode_utf8 c) (39 ∷ rest)))
    (λ k lt. ap not (not_eqb (get_or bs k 0) 39 (plain_byte c h (39 ∷ rest) k lt 39 (omega arith) parts.0)))
    (λ _. ap not_quote (get_or_at (encode_utf8 c) 39 rest 0 n refl))

pub plain_at : (c : ℕ) → IsPlain c → (rest : List ℕ)
    → character_at (encode_utf8 c ++ (39 ∷ rest)) ≡ Some (c, length (encode_utf8 c) + 1)
plain_at c h rest = go (encode_utf8 c) refl
  where
    positive : 0 < length (encode_utf8 c)
    positive = omega (arith, length-encode c, (len_utf8_bounds c).0)

    parts : (eqb c 39 ≡ false) × (eqb c 92 ≡ false)
    parts = or_parts (eqb c 39) (eqb c 92) (eqb c 10) h.itself

    go : (t : List ℕ) → encode_utf8 c ≡ t
        → character_at (encode_utf8 c ++ (39 ∷ rest)) ≡ Some (c, length (encode_utf8 c) + 1)
    go [] e = absurd (omega (arith, ap length e, positive))
    go (b ∷ t) e =
        let bs = encode_utf8 c ++ (39 ∷ rest) in
        let n = length (encode_utf8 c) in
        let begins : bs ≡ b ∷ (t ++ (39 ∷ rest)) = ap (λ (x : List ℕ). x ++ (39 ∷ rest)) e in
        let byte : eqb b 92 ≡ false = ap (λ (x : ℕ). eqb x 92) (sym (ap (λ (x : List ℕ). get_or x 0 0) begins))
        ∙ not_eqb (get_or bs 0 0) 92 (plain_byte c h (39 ∷ rest) 0 positive 92 (omega arith) parts.1) in
        let len : prefix_len not_quote (b ∷ (t ++ (39 ∷ rest))) ≡ n =
        ap (prefix_len not_quote) (sym begins) ∙ quote_place c h rest in
        ap character_at begins
        ∙ plain_case b (t ++ (39 ∷ rest)) byte
        ∙ ap (λ (k : ℕ). quoted_character (plain_character (take k (b ∷ (t ++ (39 ∷ rest))))) k
        (drop k (b ∷ (t ++ (39 ∷ rest))))) len
        ∙ ap (λ (x : List ℕ). quoted_character (plain_character (take n x)) n (drop n x)) (sym begins)
        ∙ ap (λ (x : List ℕ). quoted_character (plain_character x) n (drop n bs))
        (take_at (encode_utf8 c) (39 ∷ rest) n refl) ∙ ap (λ (x : List ℕ).
        quoted_character (plain_character (encode_utf8 c)) n x) (drop_at (encode_utf8 c) (39 ∷ rest) n refl)
        ∙ closed_read _ n rest c (plain_read c h)

-- what is read is a character literal
escape_character : (bs : List ℕ) (c n : ℕ) → character_at (92 ∷ bs) ≡ Some (c, n) → CharacterAt (92 ∷ bs) c n
escape_character bs c n h = go (escape_at bs) refl
  where
    size : ℕ
    size = escape_size (first bs)

    closed : Closed (option_and_then escape_code (escape_at bs)) (1 + size) (drop size bs) c n
    closed = closed_of _ _ _ c n h

    go : (o : Option Escape) → escape_at bs ≡ o → CharacterAt (92 ∷ bs) c n
    go None e = let no : None ≡ Some c = rw e at closed.is in none_some no
    go (Some x) e =
        let k = escape_is bs x e in
        let rest : drop size bs ≡ k.rest = ap (λ (m : ℕ). drop m bs) k.size ∙ ap (drop (length k.text)) k.parts
        ∙ drop_at k.text k.rest (length k.text) refl in
        let quote : k.rest ≡ 39 ∷ drop 1 k.rest = rw rest at closed.quote in
        let code : option_and_then escape_code (escape_of k.text) ≡ Some c =
        ap (option_and_then escape_code) (k.is ∙ sym e) ∙ closed.is in
        record {
          body = 92 ∷ k.text;
          rest = drop 1 k.rest;
          parts = ap (λ (t : List ℕ). 92 ∷ t) (k.parts ∙ ap (λ (t : List ℕ). k.text ++ t) quote);
          len = omega (arith, closed.len, k.size);
          is = escaped k.text code refl;
        }

plain_literal : (b : ℕ) (bs : List ℕ) (c n : ℕ) → eqb b 92 ≡ false → character_at (b ∷ bs) ≡ Some (c, n)
    → CharacterAt (b ∷ bs) c n
plain_literal b bs c n e h =
    let k = prefix_len not_quote (b ∷ bs) in
    let closed = closed_of (plain_character (take k (b ∷ bs))) k (drop k (b ∷ bs)) c n (sym (plain_case b bs e) ∙ h) in
    let p = plain_is (take k (b ∷ bs)) c closed.is in
    record {
      body = take k (b ∷ bs);
      rest = drop 1 (drop k (b ∷ bs));
      parts = sym (take-append-drop k (b ∷ bs)) ∙ ap (λ (t : List ℕ). take k (b ∷ bs) ++ t) closed.quote;
      len = omega (arith, closed.len, length-prefix_len not_quote (b ∷ bs));
      is = plain p.is.scalar p.is.itself (ap (λ (t : List ℕ). 39 ∷ (t ++ (39 ∷ []))) p.text);
    }

pub character_is : (bs : List ℕ) (c n : ℕ) → character_at bs ≡ Some (c, n) → CharacterAt bs c n
character_is [] c n h = none_some h
character_is (b ∷ bs) c n h = go (eqb b 92) refl
  where
    go : (x : Bool) → eqb b 92 ≡ x → CharacterAt (b ∷ bs) c n
    go true e = let same : 92 ≡ b = sym (eqb-true b 92 e) in subst (λ (m : ℕ). CharacterAt (m ∷ bs) c n) same
        (escape_character bs c n (subst (λ (m : ℕ). character_at (m ∷ bs) ≡ Some (c, n)) (sym same) h))
    go false e = plain_literal b bs c n e h
