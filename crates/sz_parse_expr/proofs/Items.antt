-- The laws of reading items, once for all kinds of items.
use Rattle.std.proofs.Common.{◌≡◌, ℕ, zero, suc, ◌≤◌, ◌<◌, List, [], ◌∷◌, length, Option, Some, None, refl, ap, arith}
use Rattle.sz_lex.specs.declared.token.Token.{Token}
use Rattle.sz_tree.specs.Statements.{greatest}
use Rattle.sz_parse_expr.specs.Tokens.{Many}
use Rattle.sz_parse_expr.specs.Reading.{Read, many_at, all_at}
use Rattle.sz_parse_expr.proofs.Holds.{Holds, some_holds, bind_holds, chosen_holds}
use Rattle.sz_parse_expr.proofs.Steps.{bind_step, choose_some, choose_none}

-- what is known of one item: what is read is spelled, and takes a token at least
pub record IsItem {A : Type 0} (step : List Token → Option (Read A))
    (R : A → List Token → List Token → Type 0) : Type 0 where
  pub sound : (ts : List Token) (r : Read A) → step ts ≡ Some r → Holds r (λ x. R x.0 ts x.1)
  pub shorter : (x : A) (ts rest : List Token) → R x ts rest → length rest < length ts

pub known : {A : Type 0} (o : Option A) → Holds o (λ x. o ≡ Some x)
known o = record { holds = λ x e. e }

many_sound : {A : Type 0} {step : List Token → Option (Read A)} {R : A → List Token → List Token → Type 0}
    → IsItem step R → (k : ℕ) (ts : List Token) → Holds (many_at step k ts) (λ y. Many R y.0 ts y.1)
unfolding many_at Many
many_sound h zero ts = some_holds _ _ refl
many_sound {step = step} h (suc k) ts =
    chosen_holds (known (step ts)) (λ none. some_holds _ _ refl)
    (λ r e. bind_holds (h.sound ts r e) (λ x g. bind_holds (many_sound h k x.1) (λ y m. some_holds _ _ (x.1, g, m))))

pub all_sound : {A : Type 0} {step : List Token → Option (Read A)} {R : A → List Token → List Token → Type 0}
    → IsItem step R → (ts : List Token) → Holds (all_at step ts) (λ y. Many R y.0 ts y.1)
unfolding all_at
all_sound h ts = many_sound h (length ts) ts

-- what is known of one item, forwards, where F holds of tokens that may follow one
pub record IsFound {A : Type 0} (step : List Token → Option (Read A)) (R : A → List Token → List Token → Type 0)
    (F : List Token → Type 0) : Type 0 where
  pub found : (x : A) (ts rest : List Token) → R x ts rest → F rest → step ts ≡ Some (Some (x, rest))
  pub begins : (x : A) (ts rest : List Token) → R x ts rest → F ts

-- what holds of the rest holds of what items begin
pub follows : {A : Type 0} {step : List Token → Option (Read A)} {R : A → List Token → List Token → Type 0}
    {F : List Token → Type 0} → IsFound step R F → (xs : List A) (ts rest : List Token)
    → Many R xs ts rest → F rest → F ts
unfolding Many
follows h [] ts rest m f = rw m f
follows h (x ∷ xs) ts rest m f = h.begins x ts m.0 m.1

many_complete : {A : Type 0} {step : List Token → Option (Read A)} {R : A → List Token → List Token → Type 0}
    {F : List Token → Type 0} → IsItem step R → IsFound step R F → (xs : List A) (k : ℕ) (ts rest : List Token)
    → Many R xs ts rest → length ts ≤ k → F rest → step rest ≡ None → many_at step k ts ≡ Some (xs, rest)
unfolding many_at Many
many_complete i h [] zero ts rest m le f none = rw m refl
many_complete i h [] (suc k) ts rest m le f none = rw m (choose_none _ _ _ _ none refl)
many_complete i h (x ∷ xs) zero ts rest m le f none = absurd (omega (arith, i.shorter x ts m.0 m.1))
many_complete i h (x ∷ xs) (suc k) ts rest m le f none =
    choose_some _ _ _ _ _ (h.found x ts m.0 m.1 (follows h xs m.0 rest m.2 f))
    (bind_step _ _ _ _ refl
    (bind_step _ _ _ _ (many_complete i h xs k m.0 rest m.2 (omega (arith, i.shorter x ts m.0 m.1)) f none) refl))

pub all_complete : {A : Type 0} {step : List Token → Option (Read A)} {R : A → List Token → List Token → Type 0}
    {F : List Token → Type 0} → IsItem step R → IsFound step R F → (xs : List A) (ts rest : List Token)
    → Many R xs ts rest → F rest → step rest ≡ None → all_at step ts ≡ Some (xs, rest)
unfolding all_at
all_complete i h xs ts rest m f none = many_complete i h xs (length ts) ts rest m (omega arith) f none

-- an item that is so spelled and at most so high
abbrev pub Low : {A : Type 0} → (A → List Token → List Token → Type 0) → (A → ℕ) → ℕ → A → List Token
    → List Token → Type 0
Low S h d x ts rest = S x ts rest × (h x ≤ d)

pub many_split : {A : Type 0} (S : A → List Token → List Token → Type 0) (h : A → ℕ) (d : ℕ) (xs : List A)
    (ts rest : List Token) → Many (Low S h d) xs ts rest → Many S xs ts rest × (greatest h xs ≤ d)
unfolding Many
many_split S h d [] ts rest m = (m, omega arith)
many_split S h d (x ∷ xs) ts rest m =
    let l = many_split S h d xs m.0 rest m.2 in
    ((m.0, m.1.0, l.0), omega (arith, m.1.1, l.1))

pub many_join : {A : Type 0} (S : A → List Token → List Token → Type 0) (h : A → ℕ) (d : ℕ) (xs : List A)
    (ts rest : List Token) → Many S xs ts rest → greatest h xs ≤ d → Many (Low S h d) xs ts rest
unfolding Many
many_join S h d [] ts rest m low = m
many_join S h d (x ∷ xs) ts rest m low = (m.0, (m.1, omega arith), many_join S h d xs m.0 rest m.2 (omega arith))

-- items that take tokens
pub many_fewer : {A : Type 0} (R : A → List Token → List Token → Type 0)
    → ((x : A) (ts rest : List Token) → R x ts rest → length rest < length ts)
    → (xs : List A) (ts rest : List Token) → Many R xs ts rest → length rest ≤ length ts
unfolding Many
many_fewer R h [] ts rest m = omega (arith, ap length m)
many_fewer R h (x ∷ xs) ts rest m = omega (arith, h x ts m.0 m.1, many_fewer R h xs m.0 rest m.2)
