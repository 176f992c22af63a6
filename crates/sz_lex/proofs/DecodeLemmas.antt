-- A literal is decoded to the value that it has.
use Rattle.std.proofs.Common.{◌≡◌, ℕ, Bool, true, false, eqb, List, [], ◌∷◌, ◌++◌, length, take, drop, Option, Some, None, Result, Ok, Err}
use Rattle.std.proofs.Common.{Vec, Global, refl, sym, ap, subst, ◌∙◌, arith}
use Rattle.std.specs.Prelude.{IfOk, IfSome, IfNone}
use Rattle.std.specs.declared.alloc.AllocError.{AllocError}
use Rattle.std.specs.Str.{bytes_eq}
use Rattle.std.specs.Option.{option_map}
use Rattle.std.proofs.lemmas.List.{append-nil, length-append, append_cancel_left, take_at, take-append-drop, nil_from_length}
use Rattle.std.proofs.lemmas.Bool.{eqb-true, eq-eqb}
use Rattle.std.proofs.lemmas.Slice.Eq.{bytes_eq-Decides}
use Rattle.sz_lex.specs.declared.escape.Quoted.{Quoted}
use Rattle.sz_lex.specs.Literals.{parts_text, IsQuoted, opening}
use Rattle.sz_lex.specs.Reading.{Body, body_at, whole_value}
use Rattle.sz_lex.proofs.LiteralLemmas.{none_some, body_is, BodyAt}
use Rattle.sz_lex.proofs.FormLemmas.{opened}

-- a body that is the whole text is a literal's
pub whole_found : (q : Quoted) (body v : List ℕ) → Some v ≡ whole_value (length body) (body_at q 0 body)
    → IsQuoted q (opening q ++ body) v
whole_found q body v h = go (body_at q 0 body) refl
  where
    found : (b : Body) → BodyAt q body b → b.len ≡ length body → b.value ≡ v → IsQuoted q (opening q ++ body) v
    found b x len value =
        let nothing : x.rest ≡ [] = nil_from_length x.rest (omega (
          arith,
          len,
          x.len,
          ap length x.text,
          length-append (parts_text x.ps) (34 ∷ x.rest),
        )) in
        record {
          parts = x.ps;
          spelled =
              ap (λ (t : List ℕ). opening q ++ t) (x.text ∙ ap (λ (t : List ℕ). parts_text x.ps ++ (34 ∷ t)) nothing);
          stands = x.value ∙ ap (λ (w : List ℕ). Some w) value;
        }

    same : (b : Body) → body_at q 0 body ≡ Some b → (x : Bool) → eqb b.len (length body) ≡ x
        → IsQuoted q (opening q ++ body) v
    same b e true f = let both : Some v ≡ Some b.value = h ∙ ap (whole_value (length body)) e
        ∙ rw f refl in found b (body_is q body b e) (eqb-true b.len (length body) f) cc
    same b e false f = let both : Some v ≡ None = h ∙ ap (whole_value (length body)) e ∙ rw f refl in
        none_some (sym both)

    go : (o : Option Body) → body_at q 0 body ≡ o → IsQuoted q (opening q ++ body) v
    go None e = none_some (sym (h ∙ ap (whole_value (length body)) e))
    go (Some b) e = same b e (eqb b.len (length body)) refl

-- and no other text is
pub whole_none : (q : Quoted) (body v : List ℕ) → None ≡ whole_value (length body) (body_at q 0 body)
    → IsQuoted q (opening q ++ body) v → ⊥
whole_none q body v h is =
    let o = opened q (opening q ++ body) v is in
    let same : body ≡ o.body = append_cancel_left (opening q) body o.body o.spelled in
    let len : eqb (length o.body) (length body) ≡ true = eq-eqb (length o.body) (length body) (ap length (sym same)) in
    let read : body_at q 0 body ≡ Some (record { len = length o.body; value = v }) =
    ap (body_at q 0) (same ∙ sym (append-nil o.body)) ∙ o.read [] in
    none_some {x = v} (h ∙ ap (whole_value (length body)) read ∙ rw len refl)

-- ---- after the opening

pub stripped : (q : Quoted) (literal p rest : List ℕ) → p ≡ opening q → bytes_eq (take (length p) literal) p ≡ true
    → rest ≡ drop (length p) literal → literal ≡ opening q ++ rest
stripped q literal p rest is front e =
    sym (take-append-drop (length p) literal)
    ∙ ap (λ (t : List ℕ). t ++ drop (length p) literal) ((bytes_eq-Decides (take
    (length p) literal) p).0 front ∙ is) ∙ ap (λ (t : List ℕ). opening q ++ t) (sym e)

pub not_stripped : (q : Quoted) (literal p v : List ℕ) → p ≡ opening q → bytes_eq (take (length p) literal) p ≡ false
    → IsQuoted q literal v → ⊥
not_stripped q literal p v is no_front h =
    let front : take (length p) literal ≡ p = ap (λ (t : List ℕ). take (length p) t) h.spelled
    ∙ take_at (opening q) (parts_text h.parts ++ (34 ∷ [])) (length p) (sym (ap length is)) ∙ sym is in
    apart_tests (sym ((bytes_eq-Decides (take (length p) literal) p).1 front) ∙ no_front)
  where
    apart_tests : true ≡ false → ⊥
    apart_tests e = cc

-- ---- the answers

abbrev Answer : Type 0
Answer = Result (Option (Vec ℕ Global)) AllocError

pub answer_found : (q : Quoted) (literal body : List ℕ) (r : Answer) → literal ≡ opening q ++ body
    → IfOk r (λ o. option_map (λ v. v.items) o ≡ whole_value (length body) (body_at q 0 body))
    → IfOk r (λ o. IfSome o (λ v. IsQuoted q literal v.items))
answer_found q literal body (Ok (Some v)) e h =
    subst (λ (t : List ℕ). IsQuoted q t v.items) (sym e) (whole_found q body v.items h)
answer_found q literal body (Ok None) e h = tt
answer_found q literal body (Err x) e h = tt

pub answer_none : (q : Quoted) (literal body : List ℕ) (r : Answer) → literal ≡ opening q ++ body
    → IfOk r (λ o. option_map (λ v. v.items) o ≡ whole_value (length body) (body_at q 0 body))
    → IfOk r (λ o. IfNone o ((value : List ℕ) → IsQuoted q literal value → ⊥))
answer_none q literal body (Ok (Some v)) e h = tt
answer_none q literal body (Ok None) e h =
    λ value is. whole_none q body value h (subst (λ (t : List ℕ). IsQuoted q t value) e is)
answer_none q literal body (Err x) e h = tt
