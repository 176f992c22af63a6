-- Loops over items, turn by turn.
use Rattle.std.proofs.Common.{◌≡◌, ℕ, zero, suc, ◌≤◌, ◌<◌, List, [], ◌∷◌, ◌++◌, length, Option, Some, None, refl, sym, ap, ◌∙◌, append_assoc, arith}
use Rattle.std.proofs.lemmas.List.{append-nil}
use Rattle.sz_lex.specs.declared.token.Token.{Token}
use Rattle.sz_parse_expr.specs.declared.failed.Failed.{Failed}
use Rattle.sz_parse_expr.specs.declared.failed.Failed.TheVariants as failures
use Rattle.sz_parse_expr.specs.Reading.{Read, bind, many_at, all_at, with_items}
use Rattle.sz_parse_expr.specs.Outcome.{Fails}
use Rattle.sz_parse_expr.proofs.Steps.{bind_step, choose_some, choose_none, bind_same, choose_same, bind_none}
use Rattle.sz_parse_expr.proofs.Items.{IsItem}

-- a step that fails makes what goes on from it fail so
pub fails_bind : {A B : Type 0} (e : Failed) (o : Option A) (f : A → Option B) → Fails e o → Fails e (bind o f)
fails_bind failures.Memory o f h = tt
fails_bind failures.Syntax o f h = bind_none o f h

pub fails_same : {A : Type 0} (e : Failed) (x y : Option A) → x ≡ y → Fails e x → Fails e y
fails_same failures.Memory x y h p = tt
fails_same failures.Syntax x y h p = sym h ∙ p

-- more turns than tokens change nothing
many_fuel : {A : Type 0} {step : List Token → Option (Read A)} {R : A → List Token → List Token → Type 0}
    → IsItem step R → step [] ≡ None
    → (k m : ℕ) (ts : List Token) → length ts ≤ k → length ts ≤ m → many_at step k ts ≡ many_at step m ts
unfolding many_at
many_fuel h none zero zero ts lk lm = refl
many_fuel h none zero (suc m) [] lk lm = sym (choose_none _ _ _ _ none refl)
many_fuel h none zero (suc m) (t ∷ ts) lk lm = absurd (omega arith)
many_fuel h none (suc k) zero [] lk lm = choose_none _ _ _ _ none refl
many_fuel h none (suc k) zero (t ∷ ts) lk lm = absurd (omega arith)
many_fuel h none (suc k) (suc m) ts lk lm =
    choose_same _ _ _ _ (λ r e. bind_same _ _ _ (λ x f.
    let less : length x.1 < length ts = h.shorter x.0 ts x.1 ((h.sound ts r e).holds x f) in
    ap (λ (y : Read _). bind y (λ y. Some (x.0 ∷ y.0, y.1))) (many_fuel h none k m x.1 (omega arith) (omega arith))))

regroup : {A : Type 0} (front : List A) (x : A) (read : Read (List A))
    → with_items front (bind read (λ y. Some (x ∷ y.0, y.1))) ≡ with_items (front ++ x ∷ []) read
unfolding with_items bind
regroup front x (Some y) = ap (λ (xs : List _). Some (xs, y.1)) (simp append_assoc)
regroup front x None = refl

-- one item more
pub all_goes_on : {A : Type 0} {step : List Token → Option (Read A)} {R : A → List Token → List Token → Type 0}
    → IsItem step R → step [] ≡ None
    → (front : List A) (x : A) (ts rest : List Token) (r : Read (List A)) → step ts ≡ Some (Some (x, rest))
    → with_items front (all_at step ts) ≡ r → with_items (front ++ x ∷ []) (all_at step rest) ≡ r
unfolding many_at all_at
all_goes_on {step = step} h none front x [] rest r e so_far = absurd cc
all_goes_on {step = step} h none front x (t ∷ ts) rest r e so_far =
    let less : length rest < suc (length ts) =
    h.shorter x (t ∷ ts) rest ((h.sound (t ∷ ts) (Some (x, rest)) e).holds (x, rest) refl) in
    let fuel : many_at step (length ts) rest ≡ many_at step (length rest) rest =
    many_fuel h none _ _ rest (omega arith) (omega arith) in
    let turn : many_at step (suc (length ts)) (t ∷ ts)
    ≡ bind (many_at step (length rest) rest) (λ y. Some (x ∷ y.0, y.1)) =
    choose_some _ _ _ _ _ e (bind_step _ _ _ _ refl (ap (λ (y : Read _). bind y (λ y. Some (x ∷ y.0, y.1))) fuel)) in
    sym (regroup front x (many_at step (length rest) rest)) ∙ ap (with_items front) (sym turn) ∙ so_far

-- an item that is not read
pub all_fails : {A : Type 0} (f : Failed) (step : List Token → Option (Read A)) → step [] ≡ None
    → (front : List A) (ts : List Token) (item : Read A) (r : Read (List A)) → step ts ≡ Some item → Fails f item
    → with_items front (all_at step ts) ≡ r → Fails f r
unfolding many_at all_at with_items
all_fails f step none front [] item r e h so_far = absurd cc
all_fails f step none front (t ∷ ts) item r e h so_far =
    fails_same f _ _ so_far
    (fails_bind f _ _ (fails_same f _ _ (sym (choose_some _ _ _ _ _ e refl)) (fails_bind f item _ h)))

ends : {A : Type 0} (k : ℕ) (step : List Token → Option (Read A)) (front : List A) (ts : List Token) → step ts ≡ None
    → with_items front (many_at step k ts) ≡ Some (front, ts)
unfolding many_at with_items
ends zero step front ts none = bind_step _ _ _ _ refl (ap (λ (xs : List _). Some (xs, ts)) (append-nil front))
ends (suc k) step front ts none =
    bind_step _ _ _ _ (choose_none _ _ _ _ none refl) (ap (λ (xs : List _). Some (xs, ts)) (append-nil front))

-- no item more
pub all_ends : {A : Type 0} (step : List Token → Option (Read A)) (front : List A) (ts : List Token)
    (r : Read (List A)) → step ts ≡ None → with_items front (all_at step ts) ≡ r → r ≡ Some (front, ts)
unfolding all_at
all_ends step front ts r none so_far = sym so_far ∙ ends (length ts) step front ts none

pub item_shorter : {A : Type 0} {step : List Token → Option (Read A)} {R : A → List Token → List Token → Type 0}
    → IsItem step R → (x : A) (ts rest : List Token) → step ts ≡ Some (Some (x, rest)) → length rest < length ts
item_shorter h x ts rest e = h.shorter x ts rest ((h.sound ts (Some (x, rest)) e).holds (x, rest) refl)
