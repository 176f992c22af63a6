-- What holds of all that is read.
use Rattle.std.proofs.Common.{◌≡◌, Bool, true, false, Option, Some, None, refl, subst}
use Rattle.sz_protofile.specs.Reading.{◌>>=◌, ◌<|>◌, bind, first, guard}

-- P holds of what is read, if anything is
pub record Holds {A : Type 0} (o : Option A) (P : A → Type 0) : Type 0 where
  pub holds : (x : A) → o ≡ Some x → P x

abbrev some : {A : Type 0} → A → Option A
some x = Some x

pub some_is : {A : Type 0} {x y : A} → some x ≡ some y → x ≡ y
some_is e = cc

pub some_holds : {A : Type 0} (P : A → Type 0) (x : A) → P x → Holds (some x) P
some_holds P x p = record { holds = λ y e. subst P (some_is e) p }

abbrev nothing : {A : Type 0} → Option A
nothing = None

pub none_holds : {A : Type 0} (P : A → Type 0) → Holds nothing P
none_holds P = record { holds = λ y e. absurd cc }

pub bind_holds : {A B : Type 0} {o : Option A} {P : A → Type 0} {f : A → Option B} {Q : B → Type 0} → Holds o P
    → ((x : A) → P x → Holds (f x) Q) → Holds (o >>= f) Q
unfolding bind
bind_holds {o = Some x} h k = k x (h.holds x refl)
bind_holds {o = None} h k = none_holds _

pub first_holds : {A : Type 0} {a b : Option A} {P : A → Type 0} → Holds a P → Holds b P → Holds (a <|> b) P
unfolding first
first_holds {a = Some x} h k = h
first_holds {a = None} h k = k

pub guard_holds : {A : Type 0} (b : Bool) {o : Option A} {P : A → Type 0} → Holds o P → Holds (guard b o) P
unfolding guard
guard_holds true h = h
guard_holds false h = none_holds _

pub anything : {A : Type 0} (o : Option A) → Holds o (λ _. Unit {0})
anything o = record { holds = λ x e. tt }
