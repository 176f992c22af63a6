-- Lists that are judged from the front.
use Rattle.std.proofs.Common.{◌≡◌, List, [], ◌∷◌, ◌++◌, map, refl, sym, ap, ◌∙◌, subst}
use Rattle.std.proofs.lemmas.List.{map-append}
use Rattle.std.specs.Prelude.{Result, Ok, Err}
use Rattle.sz_check_rules.specs.Refusals.{Judged, ◌>>=◌, Refusal}
use Rattle.sz_check_names.specs.Turns.{following, put_all}
use Rattle.sz_check_names.specs.Outcome.{Stops, Judges}
use Rattle.sz_check_names.specs.declared.error.JudgeError.{JudgeError}
use Rattle.sz_check_names.specs.declared.error.JudgeError.TheVariants as errors

-- one element more is in front
pub later_next : {A B : Type 0} (put : A → B → B) (front : List A) (x : A) (rest : Judged B)
    → following put front (rest >>= λ y. Ok (put x y)) ≡ following put (front ++ x ∷ []) rest
later_next put [] x rest = refl
later_next put (a ∷ front) x rest = ap (λ (j : Judged _). j >>= λ y. Ok (put a y)) (later_next put front x rest)

-- a refusal after the front is that of the whole
pub after_stops : {A B : Type 0} (put : A → B → B) (front : List A) (r : Refusal) → following put front (Err r) ≡ Err r
after_stops put [] r = refl
after_stops put (a ∷ front) r = ap (λ (j : Judged _). j >>= λ y. Ok (put a y)) (after_stops put front r)

-- nothing more is after the front
pub after_ends : {A B : Type 0} (put : A → B → B) (front : List A) (y : B)
    → following put front (Ok y) ≡ Ok (put_all put front y)
after_ends put [] y = refl
after_ends put (a ∷ front) y = ap (λ (j : Judged _). j >>= λ y. Ok (put a y)) (after_ends put front y)

-- an error that stops a judgement stops each one that begins with it, and each one that is the same
pub stops_then : {A B : Type 0} (e : JudgeError) (j : Judged A) (f : A → Judged B) (whole : Judged B) → Stops e j
    → (j >>= f) ≡ whole → Stops e whole
stops_then errors.NoMemory j f whole h same = tt
stops_then (errors.Refused n p name) j f whole h same = sym same ∙ ap (λ (k : Judged _). k >>= f) h

-- the same after a front
pub stops_after : {A B C : Type 0} (put : A → B → B) (front : List A) (e : JudgeError) (j : Judged C)
    (f : C → Judged B) (whole : Judged B) → Stops e j → following put front (j >>= f) ≡ whole → Stops e whole
stops_after put front errors.NoMemory j f whole h same = tt
stops_after put front (errors.Refused n p name) j f whole h same =
    sym same ∙ ap (λ (k : Judged _). following put front (k >>= f)) h ∙ after_stops put front _

-- a judgement that is made goes on
pub goes_on : {A B : Type 0} (j : Judged A) (f : A → Judged B) (whole : Judged B) (x : A) → j ≡ Ok x
    → (j >>= f) ≡ whole → f x ≡ whole
goes_on j f whole x h same = ap (λ (k : Judged _). k >>= f) (sym h) ∙ same

-- ---- one turn of a loop that collects what it judges

-- an element that is refused stops the whole
pub turn_fails : {A B C : Type 0} (put : A → B → B) (front : List A) (e : JudgeError) (j : Judged C)
    (f : C → Judged B) (rest whole : Judged B)
    → rest ≡ (j >>= f) → Stops e j → following put front rest ≡ whole → Stops e whole
turn_fails put front e j f rest whole turn h so_far =
    stops_after put front e j f whole h (ap (following put front) (sym turn) ∙ so_far)

-- an element that is judged joins the front
pub turn_goes : {A B : Type 0} (put : A → B → B) (front : List A) (x : A) (j : Judged A) (next : A → Judged B)
    (rest whole : Judged B) → rest ≡ (j >>= λ n. next n >>= λ ns. Ok (put n ns)) → j ≡ Ok x
    → following put front rest ≡ whole → following put (front ++ x ∷ []) (next x) ≡ whole
turn_goes put front x j next rest whole turn h so_far =
    sym (later_next put front x (next x))
    ∙ ap (following put front) (ap (λ (k : Judged _). k >>= λ n. next n >>= λ ns. Ok (put n ns)) (sym h) ∙ sym turn)
    ∙ so_far

-- nothing more is there
pub turn_ends : {A B : Type 0} (put : A → B → B) (front : List A) (y : B) (rest whole : Judged B) → rest ≡ Ok y
    → following put front rest ≡ whole → whole ≡ Ok (put_all put front y)
turn_ends put front y rest whole over so_far = sym so_far ∙ ap (following put front) over ∙ after_ends put front y

-- pushing at the end
pub map_push : {A B : Type 0} (f : A → B) (xs : List A) (x : A) → map f (xs ++ x ∷ []) ≡ map f xs ++ f x ∷ []
map_push f xs x = map-append f xs (x ∷ [])

-- what is judged of a tree is judged of its other spelling
pub judged_as : {X Y T : Type 0} (view : X → Y) (r : Result X JudgeError) (f : T → Judged Y) (s t : T) → s ≡ t
    → Judges view r (f t) → Judges view r (f s)
judged_as view r f s t same h = subst (λ (u : _). Judges view r (f u)) (sym same) h
