-- What holds of what a judgement gives, where nothing was refused.
use Rattle.std.proofs.Common.{◌≡◌, Bool, true, false, refl, subst}
use Rattle.std.specs.Prelude.{Ok, Err, Option, Some, None, if◌then◌else◌}
use Rattle.sz_check_rules.specs.Refusals.{Refusal, Judged, ◌>>=◌, unless}
pub use Rattle.sz_core.proofs.ForCallers.{some_has}

-- P holds of what the judgement gives, if nothing is refused
pub record Holds {A : Type 0} (m : Judged A) (P : A → Type 0) : Type 0 where
  pub holds : (x : A) → m ≡ Ok x → P x

-- what is judged, and a refusal
abbrev pub good : {A : Type 0} → A → Judged A
good x = Ok x

abbrev pub bad : {A : Type 0} → Refusal → Judged A
bad r = Err r

-- what is judged is one thing
pub good_is : {A : Type 0} {x y : A} → good x ≡ good y → x ≡ y
good_is e = cc

-- what holds of the value holds of a judgement that is the value
pub ok_holds : {A : Type 0} (P : A → Type 0) (x : A) → P x → Holds (good x) P
ok_holds P x p = record { holds = λ y e. subst P (good_is e) p }

-- anything holds of what a refusal gives
pub err_holds : {A : Type 0} (P : A → Type 0) (r : Refusal) → Holds (bad r) P
err_holds P r = record { holds = λ y e. absurd cc }

-- what holds of the second judgement, for each value of the first, holds of both
pub bind_holds : {A B : Type 0} {m : Judged A} {P : A → Type 0} {f : A → Judged B} {Q : B → Type 0} → Holds m P
    → ((x : A) → P x → Holds (f x) Q) → Holds (m >>= f) Q
bind_holds {m = Ok x} h k = k x (h.holds x refl)
bind_holds {m = Err r} h k = err_holds _ r

-- the same, where what was judged is known too
pub known : {A : Type 0} (m : Judged A) → Holds m (λ x. m ≡ good x)
known m = record { holds = λ x e. e }

-- what follows from what holds
pub weaker : {A : Type 0} {m : Judged A} {P Q : A → Type 0} → Holds m P → ((x : A) → P x → Q x) → Holds m Q
weaker h k = record { holds = λ x e. k x (h.holds x e) }

-- two things that hold, together
pub both_hold : {A : Type 0} {m : Judged A} {P Q : A → Type 0} → Holds m P → Holds m Q → Holds m (λ x. P x × Q x)
both_hold h k = record { holds = λ x e. (h.holds x e, k.holds x e) }

-- what is refused unless the test holds gives that it holds
pub unless_holds : (b : Bool) (r : Refusal) → Holds (unless b (bad r)) (λ u. b ≡ true)
unless_holds true r = ok_holds _ _ refl
unless_holds false r = err_holds _ r

-- what is judged one way or another, by a test
pub if_holds : {A : Type 0} {m n : Judged A} {P : A → Type 0} (b : Bool) → (b ≡ true → Holds m P)
    → (b ≡ false → Holds n P) → Holds (if b then m else n) P
if_holds true h k = h refl
if_holds false h k = k refl

-- what is judged by whether something is there
abbrev pub by_option : {X A : Type 0} → Judged A → (X → Judged A) → Option X → Judged A
by_option r k None = r
by_option r k (Some x) = k x

-- it holds where it does in either case
pub option_holds : {X A : Type 0} {r : Judged A} {k : X → Judged A} {P : A → Type 0} (o : Option X)
    → (o ≡ None → Holds r P) → ((x : X) → o ≡ Some x → Holds (k x) P) → Holds (by_option r k o) P
option_holds None h g = h refl
option_holds (Some x) h g = g x refl
