-- Single tokens: what is read is there, and what is there is read.
use Rattle.std.proofs.Common.{◌≡◌, ℕ, suc, Bool, true, false, eqb, List, [], ◌∷◌, ◌++◌, length, take, drop, Option, Some, None}
use Rattle.std.proofs.Common.{refl, sym, ap, subst, ◌∙◌}
use Rattle.std.specs.Prelude.{IsUtf8}
use Rattle.std.specs.Str.{bytes_eq, is_utf8}
use Rattle.std.proofs.lemmas.List.{append-nil, take_at, take-append-drop, drop_at}
use Rattle.std.proofs.lemmas.Bool.{eq-eqb}
use Rattle.std.proofs.lemmas.Slice.Eq.{bytes_eq-Decides}
use Rattle.std.proofs.lemmas.Str.{IsUtf8-from_is_utf8, is_utf8-from_IsUtf8}
use denote.Enum.Bare.{sameb, same_true, true_same}
use Rattle.sz_types.specs.declared.place.Place.{Place}
use Rattle.sz_lex.specs.declared.token.Token.{Token}
use Rattle.sz_lex.specs.declared.token.Kind.{Kind}
use Rattle.sz_lex.specs.declared.token.Kind.TheVariants as kinds
use Rattle.sz_lex.specs.declared.sign.Sign.{Sign}
use Rattle.sz_lex.specs.declared.word.Word.{Word}
use Rattle.sz_lex.specs.declared.escape.Quoted.{Quoted}
use Rattle.sz_lex.specs.declared.escape.Quoted.TheVariants as quoteds
use Rattle.sz_lex.specs.contracts.sign.Sign.{the_type as sign_type}
use Rattle.sz_lex.specs.contracts.word.Word.{the_type as word_type}
use Rattle.sz_lex.specs.Literals.{opening, IsQuoted}
use Rattle.sz_lex.specs.Lexed.{lexeme_of}
use Rattle.sz_lex.specs.Reading.{body_at, whole_value}
use Rattle.sz_lex.proofs.FormLemmas.{opened}
use Rattle.sz_lex.proofs.DecodeLemmas.{whole_found}
use Rattle.sz_lex.proofs.Utf8Lemmas.{strings_are_utf8}
use Rattle.sz_tree.specs.Names.{Ident}
use Rattle.sz_parse_expr.specs.Tokens.{Spelling, token, At, Is, IsSign, IsWord, AtName}
use Rattle.sz_parse_expr.specs.Reading.{sign_here, after_sign, word_here, after_word, name_here, name_at, ident_of, utf8_in, decoded}
use Rattle.sz_parse_expr.proofs.Holds.{Holds, some_holds, none_holds, if_holds}

-- ---- what is read is there

sign_here_sound : (s : Sign) (t : Token) (k : Kind) (ts : List Token) → t.kind ≡ k
    → Holds (sign_here s k ts) (λ r. IsSign s (t ∷ ts) r)
sign_here_sound s t (kinds.Sign r) ts e =
    if_holds _ _ _ (λ q. record {
      place = t.place;
      start = t.start;
      len = t.len;
      is = ap (λ (k : Kind). token k t.place t.start t.len ∷ ts)
          (e ∙ ap kinds.Sign (same_true sign_type tt r s q));
    })
sign_here_sound s t _ ts e = none_holds _

pub after_sign_sound : (s : Sign) (ts : List Token) → Holds (after_sign s ts) (λ r. IsSign s ts r)
unfolding after_sign
after_sign_sound s [] = none_holds _
after_sign_sound s (t ∷ ts) = sign_here_sound s t t.kind ts refl

word_here_sound : (w : Word) (t : Token) (k : Kind) (ts : List Token) → t.kind ≡ k
    → Holds (word_here w k ts) (λ r. IsWord w (t ∷ ts) r)
word_here_sound w t (kinds.Word v) ts e =
    if_holds _ _ _ (λ q. record {
      place = t.place;
      start = t.start;
      len = t.len;
      is = ap (λ (k : Kind). token k t.place t.start t.len ∷ ts)
          (e ∙ ap kinds.Word (same_true word_type tt v w q));
    })
word_here_sound w t _ ts e = none_holds _

pub after_word_sound : (w : Word) (ts : List Token) → Holds (after_word w ts) (λ r. IsWord w ts r)
unfolding after_word
after_word_sound w [] = none_holds _
after_word_sound w (t ∷ ts) = word_here_sound w t t.kind ts refl

-- a token that is a name, with what it spells
pub here_is_name : (text : Spelling) (t : Token) (ts : List Token) → t.kind ≡ kinds.Name
    → AtName text (ident_of text t) (t ∷ ts) ts
here_is_name text t ts e = record {
  start = t.start;
  len = t.len;
  is = ap (λ (k : Kind). token k t.place t.start t.len ∷ ts) e;
  spelled = ap (λ (k : Kind). text (token k t.place t.start t.len)) e;
}

name_here_sound : (text : Spelling) (t : Token) (k : Kind) (ts : List Token) → t.kind ≡ k
    → Holds (name_here text t k ts) (λ r. AtName text r.0 (t ∷ ts) r.1)
name_here_sound text t kinds.Name ts e =
    some_holds _ _ (here_is_name text t ts e)
name_here_sound text t _ ts e = none_holds _

pub name_sound : (text : Spelling) (ts : List Token) → Holds (name_at text ts) (λ r. AtName text r.0 ts r.1)
unfolding name_at
name_sound text [] = none_holds _
name_sound text (t ∷ ts) = name_here_sound text t t.kind ts refl

-- ---- what is there is read

pub after_sign_is : (s : Sign) (ts rest : List Token) → IsSign s ts rest → after_sign s ts ≡ Some rest
unfolding after_sign
after_sign_is s ts rest h = rw (h.is, true_same sign_type s s refl) refl

-- another sign is there
pub other_sign : (s r : Sign) (ts rest : List Token) → IsSign r ts rest → sameb sign_type r s ≡ false
    → after_sign s ts ≡ None
unfolding after_sign
other_sign s r ts rest h e = rw (h.is, e) refl

pub after_word_is : (w : Word) (ts rest : List Token) → IsWord w ts rest → after_word w ts ≡ Some rest
unfolding after_word
after_word_is w ts rest h = rw (h.is, true_same word_type w w refl) refl

pub other_word : (w v : Word) (ts rest : List Token) → IsWord v ts rest → sameb word_type v w ≡ false
    → after_word w ts ≡ None
unfolding after_word
other_word w v ts rest h e = rw (h.is, e) refl

pub name_is : (text : Spelling) (n : Ident) (ts rest : List Token) → AtName text n ts rest
    → name_at text ts ≡ Some (n, rest)
unfolding name_at
name_is text n ts rest h =
    rw h.is (ap (λ (t : List ℕ). Some (record { place = n.place; text = t }, rest)) (sym h.spelled))

-- ---- each is one token

pub at_length : {p : Place} {k : Kind} {ts rest : List Token} → At p k ts rest → length ts ≡ suc (length rest)
at_length h = ap length h.is

pub is_length : {k : Kind} {ts rest : List Token} → Is k ts rest → length ts ≡ suc (length rest)
is_length h = ap length h.is

pub name_length : {text : Spelling} {n : Ident} {ts rest : List Token} → AtName text n ts rest
    → length ts ≡ suc (length rest)
name_length h = ap length h.is

-- ---- the bytes of a token

pub utf8_in_is : (text : List ℕ) (t : Token) → IsUtf8 (lexeme_of text t) → utf8_in text t ≡ lexeme_of text t
unfolding utf8_in
utf8_in_is text t u = rw (is_utf8-from_IsUtf8 (lexeme_of text t) u) refl

pub utf8_in_none : (text : List ℕ) (t : Token) → (IsUtf8 (lexeme_of text t) → ⊥) → utf8_in text t ≡ []
unfolding utf8_in
utf8_in_none text t none = go (is_utf8 (lexeme_of text t)) refl
  where
    go : (b : Bool) → is_utf8 (lexeme_of text t) ≡ b → utf8_in text t ≡ []
    go true e = absurd (none (IsUtf8-from_is_utf8 (lexeme_of text t) e))
    go false e = rw e refl

-- ---- literals between quotes

pub decoded_sound : (q : Quoted) (l : List ℕ) → Holds (decoded q l) (IsQuoted q l)
unfolding decoded
decoded_sound q l = go (bytes_eq (take (length (opening q)) l) (opening q)) refl
  where
    body : List ℕ
    body = drop (length (opening q)) l

    front : bytes_eq (take (length (opening q)) l) (opening q) ≡ true → l ≡ opening q ++ body
    front e = sym (take-append-drop (length (opening q)) l)
        ∙ ap (λ (t : List ℕ). t ++ body) ((bytes_eq-Decides (take (length (opening q)) l) (opening q)).0 e)

    go : (b : Bool) → bytes_eq (take (length (opening q)) l) (opening q) ≡ b → Holds (decoded q l) (IsQuoted q l)
    go true e = record {
      holds = λ v h. subst (λ (t : List ℕ). IsQuoted q t v) (sym (front e)) (whole_found q body v (sym (rw e at h)));
    }
    go false e = record { holds = λ v h. absurd (none_is v (rw e at h)) }
      where
        none_is : (v : List ℕ) → None ≡ Some v → ⊥
        none_is v h = cc

pub decoded_is : (q : Quoted) (l v : List ℕ) → IsQuoted q l v → decoded q l ≡ Some v
unfolding decoded
decoded_is q l v h =
    let o = opened q l v h in
    let front : take (length (opening q)) l ≡ opening q =
    ap (take (length (opening q))) o.spelled ∙ take_at (opening q) o.body (length (opening q)) refl in
    let test : bytes_eq (take (length (opening q)) l) (opening q) ≡ true =
    (bytes_eq-Decides (take (length (opening q)) l) (opening q)).1 front in
    let body : drop (length (opening q)) l ≡ o.body =
    ap (drop (length (opening q))) o.spelled ∙ drop_at (opening q) o.body (length (opening q)) refl in
    let read : body_at q 0 o.body ≡ Some (record { len = length o.body; value = v }) =
    ap (body_at q 0) (sym (append-nil o.body)) ∙ o.read [] in
    let same : eqb (length o.body) (length o.body) ≡ true = eq-eqb (length o.body) (length o.body) refl in
    rw test (ap (λ (b : List ℕ). whole_value (length b) (body_at q 0 b)) body
    ∙ ap (whole_value (length o.body)) read ∙ rw same refl)

pub decoded_none : (q : Quoted) (l : List ℕ) → ((v : List ℕ) → IsQuoted q l v → ⊥) → decoded q l ≡ None
decoded_none q l none = go (decoded q l) refl
  where
    go : (o : Option (List ℕ)) → decoded q l ≡ o → decoded q l ≡ None
    go (Some v) e = absurd (none v ((decoded_sound q l).holds v e))
    go None e = e

-- what a string that is written in UTF-8 stands for is UTF-8
pub string_is_utf8 : (l v : List ℕ) → IsUtf8 l → decoded quoteds.Str l ≡ Some v → IsUtf8 v
string_is_utf8 l v u e = strings_are_utf8 l v u ((decoded_sound quoteds.Str l).holds v e)
