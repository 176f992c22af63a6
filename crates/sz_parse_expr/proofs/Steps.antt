-- Steps of reading, forwards.
use Rattle.std.proofs.Common.{◌≡◌, ◌⊎◌, inl, inr, Bool, true, false, Option, Some, None}
use Rattle.std.proofs.Common.{refl}
use Rattle.sz_parse_expr.specs.Reading.{◌>>=◌, bind, choose, guard}

pub bind_step : {A B : Type 0} (o : Option A) (f : A → Option B) (x : A) (r : Option B) → o ≡ Some x
    → f x ≡ r → (o >>= f) ≡ r
unfolding bind
bind_step o f x r e k = rw e k

pub choose_some : {A B : Type 0} (o : Option A) (y : B) (f : A → B) (x : A) (r : B) → o ≡ Some x → f x ≡ r
    → choose o y f ≡ r
unfolding choose
choose_some o y f x r e k = rw e k

pub choose_none : {A B : Type 0} (o : Option A) (y : B) (f : A → B) (r : B) → o ≡ None → y ≡ r → choose o y f ≡ r
unfolding choose
choose_none o y f r e k = rw e k

pub guard_step : {A : Type 0} (b : Bool) (o r : Option A) → b ≡ true → o ≡ r → guard b o ≡ r
unfolding guard
guard_step b o r e k = rw e k

pub guard_false : {A : Type 0} (b : Bool) (o : Option A) → b ≡ false → guard b o ≡ None
unfolding guard
guard_false b o e = rw e refl

pub bind_none : {A B : Type 0} (o : Option A) (f : A → Option B) → o ≡ None → bind o f ≡ None
unfolding bind
bind_none o f e = rw e refl

pub true_or_false : (b : Bool) → (b ≡ true) ⊎ (b ≡ false)
true_or_false true = inl refl
true_or_false false = inr refl

pub bind_same : {A B : Type 0} (o : Option A) (f g : A → Option B) → ((x : A) → o ≡ Some x → f x ≡ g x)
    → bind o f ≡ bind o g
unfolding bind
bind_same (Some x) f g h = h x refl
bind_same None f g h = refl

pub choose_same : {A B : Type 0} (o : Option A) (y : B) (f g : A → B) → ((x : A) → o ≡ Some x → f x ≡ g x)
    → choose o y f ≡ choose o y g
unfolding choose
choose_same (Some x) y f g h = h x refl
choose_same None y f g h = refl
