-- What counting a value again, or for the first time, leaves of the emits.
use Rattle.std.proofs.Common.{◌≡◌, ◌∙◌, ℕ, ◌+◌, ◌≤◌, ◌<◌, Bool, true, false, cond, true≢false, Some, None, List, [], ◌∷◌, ◌++◌}
use Rattle.std.proofs.Common.{map, length, refl, sym, ap, subst, arith, append_assoc, append-nil, IsPermutation, Ordering, Less, Equal, Greater, is_eq}
use Rattle.std.specs.Ordering.{eq_by_cmp}
use Rattle.std.specs.Map.{lookup, set_value}
use Rattle.std.proofs.lemmas.List.{replicate-append-replicate, length-replicate, length-append, map-append}
use Rattle.std.proofs.lemmas.List.Sorted.{IsPermutation-refl, IsPermutation-trans, IsPermutation-append_comm, IsPermutation-append_right}
use Rattle.sz_value.specs.Data.{Datum}
use Rattle.sz_value.specs.Order.{compare}
use Rattle.sz_value.specs.Total.{compare_ties}
use Rattle.sz_value.specs.Seen.{seen}
use Rattle.sz_value.specs.declared.value.Value.{Value}
use Rattle.sz_tabs.specs.Data.{Weighted}
use Rattle.sz_members.specs.Data.{times, emits_of}
use Rattle.sz_members.specs.Repeats.{value_eq, seen_repeated, emits_tallied, AllCame, CountsAgain}

-- an equation of lists is an order of them
pub as_they_stand : {X : Type 0} (xs ys : List X) → xs ≡ ys → IsPermutation xs ys
as_they_stand xs ys same = subst (IsPermutation xs) same (IsPermutation-refl xs)

-- values that are equal are the same data
pub equal_data : (v w : Value) → value_eq v w ≡ true → seen v ≡ seen w
equal_data v w equal = compare_ties (seen v) (seen w) (by_found (compare (seen v) (seen w)) equal)
  where
    by_found : (found : Ordering) → is_eq found ≡ true → found ≡ Equal
    by_found Less e = absurd (true≢false (sym e))
    by_found Equal e = refl
    by_found Greater e = absurd (true≢false (sym e))

-- emits of values after others
pub emits_append : (ps qs : List (Datum × ℕ)) → emits_of (ps ++ qs) ≡ emits_of ps ++ emits_of qs
emits_append [] qs = refl
emits_append (p ∷ ps) qs = ap (λ l. times p.1 p.0 ++ l) (emits_append ps qs)
    ∙ sym (append_assoc (times p.1 p.0) (emits_of ps) (emits_of qs))

-- a value at the end
pub emits_after : (es : List (Value × ℕ)) (v : Value) (n : ℕ)
    → emits_tallied (es ++ (v, n) ∷ []) ≡ emits_tallied es ++ times n (seen v)
emits_after es v n =
    ap emits_of (map-append seen_repeated es ((v, n) ∷ [])) ∙ emits_append (map seen_repeated es) ((seen v, n) ∷ [])
    ∙ ap (λ l. emits_tallied es ++ l) (append-nil (times n (seen v)))

pub came_after : (es : List (Value × ℕ)) (v : Value) (n : ℕ) → 0 < n → AllCame es → AllCame (es ++ (v, n) ∷ [])
came_after [] v n some all = (some, tt)
came_after (e ∷ es) v n some all = (all.0, came_after es v n some all.1)

-- the last two parts change places
last_two : (xs ys zs : List Weighted) → IsPermutation ((xs ++ ys) ++ zs) ((xs ++ zs) ++ ys)
last_two xs ys zs =
    IsPermutation-trans ((xs ++ ys) ++ zs) (xs ++ (ys ++ zs)) ((xs ++ zs) ++ ys)
    (as_they_stand _ _ (append_assoc xs ys zs))
    (IsPermutation-trans (xs ++ (ys ++ zs)) (xs ++ (zs ++ ys)) ((xs ++ zs) ++ ys)
    (IsPermutation-append_right xs (ys ++ zs) (zs ++ ys) (IsPermutation-append_comm ys zs))
    (as_they_stand _ _ (sym (append_assoc xs zs ys))))

-- the value that passes the test came n times more
module _ (value : Datum) (n : ℕ) (test : Value → Bool) (tells : (k : Value) → test k ≡ true → value ≡ seen k) where
  pub times_more : (es : List (Value × ℕ)) (r : ℕ) → lookup test es ≡ Some r
      → IsPermutation (emits_tallied es ++ times n value) (emits_tallied (set_value test es (r + n)))
  times_more [] r there = absurd (cc)
  times_more (e ∷ es) r there = by_test (test e.0) refl there (times_more es r)
    where
      goal_of : Bool → Type 0
      goal_of b = IsPermutation (emits_tallied (e ∷ es) ++ times n value)
          (emits_tallied (cond b ((e.0, r + n) ∷ es) (e ∷ set_value test es (r + n))))

      by_test : (b : Bool) → test e.0 ≡ b → cond b (Some e.1) (lookup test es) ≡ Some r
          → (lookup test es ≡ Some r
          → IsPermutation (emits_tallied es ++ times n value) (emits_tallied (set_value test es (r + n)))) → goal_of b
      by_test true is here rest =
          let same : e.1 ≡ r = cc in
          let more : times e.1 (seen e.0) ++ times n value ≡ times (r + n) (seen e.0) =
          (λ i. times (same i) (seen e.0) ++ times n (tells e.0 is i)) ∙ replicate-append-replicate r n _ in
          IsPermutation-trans _ _ _ (last_two (times e.1 (seen e.0)) (emits_tallied es) (times n value))
          (as_they_stand _ _ (ap (λ l. l ++ emits_tallied es) more))
      by_test false is here rest =
          IsPermutation-trans _ _ _
          (as_they_stand _ _ (append_assoc (times e.1 (seen e.0)) (emits_tallied es) (times n value)))
          (IsPermutation-append_right (times e.1 (seen e.0)) _ _ (rest here))

  pub came_more : (es : List (Value × ℕ)) (r : ℕ) → lookup test es ≡ Some r → AllCame es
      → AllCame (set_value test es (r + n))
  came_more [] r there all = tt
  came_more (e ∷ es) r there all = by_test (test e.0) there (came_more es r)
    where
      by_test : (b : Bool) → cond b (Some e.1) (lookup test es) ≡ Some r
          → (lookup test es ≡ Some r → AllCame es → AllCame (set_value test es (r + n)))
          → AllCame (cond b ((e.0, r + n) ∷ es) (e ∷ set_value test es (r + n)))
      by_test true here rest =
          let same : e.1 ≡ r = cc in (omega (arith, all.0, same), all.1)
      by_test false here rest = (all.0, rest here all.1)

  -- how often the value came before is at most how many emits there are
  pub came_within : (es : List (Value × ℕ)) (r : ℕ) → lookup test es ≡ Some r → r ≤ length (emits_tallied es)
  came_within [] r there = absurd (cc)
  came_within (e ∷ es) r there =
      by_test (test e.0) there (came_within es r)
    where
      by_test : (b : Bool) → cond b (Some e.1) (lookup test es) ≡ Some r
          → (lookup test es ≡ Some r → r ≤ length (emits_tallied es)) → r ≤ length (emits_tallied (e ∷ es))
      by_test true here rest =
          let same : e.1 ≡ r = cc in
          omega (
            arith,
            same,
            length-append (times e.1 (seen e.0)) (emits_tallied es),
            length-replicate {A = Weighted} e.1 (record { value = seen e.0; weight = None }),
          )
      by_test false here rest = omega (arith, length-append (times e.1 (seen e.0)) (emits_tallied es), rest here)

-- where the value is absent, so is each equal one
pub absent_alike : (v w : Value) (es : List (Value × ℕ)) → seen v ≡ seen w → lookup (value_eq w) es ≡ None
    → lookup (value_eq v) es ≡ None
absent_alike v w es same none = ap (λ d. lookup (λ k. eq_by_cmp compare d (seen k)) es) same ∙ none

pub counts_again : (v : Value) (n : ℕ) (es : List (Value × ℕ)) (r : ℕ) → lookup (value_eq v) es ≡ Some r
    → (new : List (Value × ℕ)) → new ≡ set_value (value_eq v) es (r + n) → length new ≡ length es
    → CountsAgain (seen v) n es new
counts_again v n es r there new is long = record {
  emits = subst (λ l. IsPermutation (emits_tallied es ++ times n (seen v)) (emits_tallied l)) (sym is)
      (times_more (seen v) n (value_eq v) (equal_data v) es r there);
  came = λ all. subst AllCame (sym is) (came_more (seen v) n (value_eq v) (equal_data v) es r there all);
  values = long;
}
