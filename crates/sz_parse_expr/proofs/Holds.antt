-- What holds of the value of a step, if it has one.
use Rattle.std.proofs.Common.{◌≡◌, Bool, true, false, cond, Option, Some, None, refl, subst}
use Rattle.sz_parse_expr.specs.Reading.{◌>>=◌, bind, choose, guard}

-- P holds of the value, if there is one
pub record Holds {A : Type 0} (o : Option A) (P : A → Type 0) : Type 0 where
  pub holds : (x : A) → o ≡ Some x → P x

abbrev pub some : {A : Type 0} → A → Option A
some x = Some x

pub some_is : {A : Type 0} {x y : A} → some x ≡ some y → x ≡ y
some_is e = cc

pub some_holds : {A : Type 0} (P : A → Type 0) (x : A) → P x → Holds (some x) P
some_holds P x p = record { holds = λ y e. subst P (some_is e) p }

abbrev pub nothing : {A : Type 0} → Option A
nothing = None

pub none_holds : {A : Type 0} (P : A → Type 0) → Holds nothing P
none_holds P = record { holds = λ y e. absurd cc }

pub bind_holds : {A B : Type 0} {o : Option A} {P : A → Type 0} {f : A → Option B} {Q : B → Type 0} → Holds o P
    → ((x : A) → P x → Holds (f x) Q) → Holds (o >>= f) Q
unfolding bind
bind_holds {o = Some x} h k = k x (h.holds x refl)
bind_holds {o = None} h k = none_holds _

pub choose_holds : {A B : Type 0} {o : Option A} {P : A → Type 0} {y : Option B} {f : A → Option B} {Q : B → Type 0}
    → Holds o P → Holds y Q → ((x : A) → P x → Holds (f x) Q) → Holds (choose o y f) Q
unfolding choose
choose_holds {o = Some x} h n k = k x (h.holds x refl)
choose_holds {o = None} h n k = n

pub guard_holds : {A : Type 0} {b : Bool} {o : Option A} {Q : A → Type 0} → (b ≡ true → Holds o Q) → Holds (guard b o) Q
unfolding guard
guard_holds {b = true} k = k refl
guard_holds {b = false} k = none_holds _

pub if_holds : {A : Type 0} (b : Bool) (x : A) (P : A → Type 0) → (b ≡ true → P x) → Holds (cond b (some x) nothing) P
if_holds true x P k = some_holds _ _ (k refl)
if_holds false x P k = none_holds _

pub weaker : {A : Type 0} {o : Option A} {P Q : A → Type 0} → Holds o P → ((x : A) → P x → Q x) → Holds o Q
weaker h k = record { holds = λ x e. k x (h.holds x e) }

-- the same, where the first side is known to have nothing
pub chosen_holds : {A B : Type 0} {o : Option A} {P : A → Type 0} {y : Option B} {f : A → Option B} {Q : B → Type 0}
    → Holds o P → (o ≡ None → Holds y Q) → ((x : A) → P x → Holds (f x) Q) → Holds (choose o y f) Q
unfolding choose
chosen_holds {o = Some x} h n k = k x (h.holds x refl)
chosen_holds {o = None} h n k = n refl
