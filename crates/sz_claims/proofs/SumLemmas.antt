-- Sums of counts, as a history grows.
use Rattle.std.proofs.Common.{◌≡◌, ◌≢◌, ℕ, zero, suc, ◌+◌, ◌*◌, ◌<◌, ◌≤◌, ◌==◌, Bool, true, false, cond, List, [], ◌∷◌, ◌++◌, refl, sym, subst}
use Rattle.std.proofs.Common.{le_refl, le_trans, arith, suc-mul}
use mathlib.Core.Logic.{dite}
use native.Mathlib.Decide.{ℕ_discrete}
use Rattle.sz_book_rules.specs.declared.event.Entry.{Entry}
use Rattle.sz_book_rules.specs.History.{calls_by}
use Rattle.sz_claims.specs.Rule.{sum_below, any_of, found_no_ticket, found_no_number, without_number}
use Rattle.sz_book_rules.proofs.HistoryLemmas.{calls_by-append, calls_own}

pub sum_grows : (f g : ℕ → ℕ) (n : ℕ) → ((k : ℕ) → k < n → f k ≤ g k) → sum_below f n ≤ sum_below g n
sum_grows f g zero h = omega arith
sum_grows f g (suc n) h = let a = sum_grows f g n (λ k below. h k (omega arith)) in let b = h n (omega arith) in omega arith

pub sum_one_more : (f g : ℕ → ℕ) (n j : ℕ) → j < n → ((k : ℕ) → k < n → f k ≤ g k) → f j + 1 ≤ g j → sum_below f n + 1 ≤ sum_below g n
sum_one_more f g zero j below h up = absurd (omega arith)
sum_one_more f g (suc n) j below h up = dite (ℕ_discrete j n)
    (λ (e : j ≡ n).
    let a = sum_grows f g n (λ k low. h k (omega arith)) in
    let b : f n + 1 ≤ g n = subst (λ (k : ℕ). f k + 1 ≤ g k) e up in
    let goal : sum_below f (suc n) + 1 ≤ sum_below g (suc n) = omega arith in goal)
    (λ (ne : j ≢ n).
    let low : j < n = omega arith in
    let a = sum_one_more f g n j low (λ k low'. h k (omega arith)) up in
    let b = h n (omega arith) in
    let goal : sum_below f (suc n) + 1 ≤ sum_below g (suc n) = omega arith in goal)

pub sum_most : (f : ℕ → ℕ) (n b : ℕ) → ((k : ℕ) → k < n → f k ≤ b) → sum_below f n ≤ n * b
sum_most f zero b h = omega arith
sum_most f (suc n) b h = let a = sum_most f n b (λ k low. h k (omega arith)) in let c = h n (omega arith) in omega (arith, suc-mul n b)

cond_least : (b : Bool) (x y : ℕ) → x ≤ y → x ≤ 1 → cond b 1 x ≤ cond b 1 y
cond_least true x y h low = omega arith
cond_least false x y h low = h

cond_low : (b : Bool) (x : ℕ) → x ≤ 1 → cond b 1 x ≤ 1
cond_low true x h = omega arith
cond_low false x h = h

pub any_low : (f : Entry → Bool) (es : List Entry) → any_of f es ≤ 1
any_low f [] = omega arith
any_low f (e ∷ es) = cond_low (f e) (any_of f es) (any_low f es)

pub any_append : (f : Entry → Bool) (xs ys : List Entry) → any_of f xs ≤ any_of f (xs ++ ys)
any_append f [] ys = omega arith
any_append f (x ∷ xs) ys = cond_least (f x) (any_of f xs) (any_of f (xs ++ ys)) (any_append f xs ys) (any_low f xs)

cond_last : (b : Bool) (x : ℕ) → 1 ≤ x → 1 ≤ cond b 1 x
cond_last true x h = omega arith
cond_last false x h = h

pub any_last : (f : Entry → Bool) (xs : List Entry) (e : Entry) → f e ≡ true → 1 ≤ any_of f (xs ++ e ∷ [])
any_last f [] e h = rw h (omega arith)
any_last f (x ∷ xs) e h = cond_last (f x) (any_of f (xs ++ e ∷ [])) (any_last f xs e h)

-- the calls of one pass only grow
pub any_calls : (f : Entry → Bool) (n : ℕ) (log : List Entry) (e : Entry) → any_of f (calls_by n log) ≤ any_of f (calls_by n (log ++ e ∷ []))
any_calls f n log e =
    subst (λ (l : List Entry). any_of f (calls_by n log) ≤ any_of f l) (sym (calls_by-append n log (e ∷ [])))
    (any_append f (calls_by n log) (calls_by n (e ∷ [])))

cond_up : (b : Bool) (x y : ℕ) → x ≤ y → cond b 1 x ≤ cond b 1 y
cond_up true x y h = le_refl 1
cond_up false x y h = h

cond_more : (b : Bool) (x : ℕ) → x ≤ 1 → x ≤ cond b 1 x
cond_more true x h = h
cond_more false x h = le_refl x

kept_any : (b : Bool) (f : Entry → Bool) (e : Entry) (es : List Entry) → any_of f (cond b (e ∷ es) es) ≤ cond (f e) 1 (any_of f es)
kept_any true f e es = le_refl (cond (f e) 1 (any_of f es))
kept_any false f e es = cond_more (f e) (any_of f es) (any_low f es)

pub any_own : (f : Entry → Bool) (n : ℕ) (es : List Entry) → any_of f (calls_by n es) ≤ any_of f es
any_own f n [] = le_refl 0
any_own f n (e ∷ es) = le_trans (kept_any (e.by == n) f e (calls_by n es)) (cond_up (f e) (any_of f (calls_by n es)) (any_of f es) (any_own f n es))

any_calls_last : (f : Entry → Bool) (log : List Entry) (e : Entry) → f e ≡ true → 1 ≤ any_of f (calls_by e.by (log ++ e ∷ []))
any_calls_last f log e h = subst (λ (l : List Entry). 1 ≤ any_of f l) (sym (calls_own e.by log e refl)) (any_last f (calls_by e.by log) e h)

abbrev pub dries : List Entry → ℕ → ℕ
dries log made = sum_below (λ n. any_of found_no_ticket (calls_by n log)) made

abbrev pub bars : ℕ → List Entry → ℕ → ℕ
bars tickets log made = sum_below (λ n. without_number tickets (calls_by n log)) made

pub dries_grow : (log : List Entry) (e : Entry) (made : ℕ) → dries log made ≤ dries (log ++ e ∷ []) made
dries_grow log e made =
    sum_grows (λ n. any_of found_no_ticket (calls_by n log)) (λ n. any_of found_no_ticket (calls_by n (log ++ e ∷ []))) made
    (λ k low. any_calls found_no_ticket k log e)

pub dries_one : (log : List Entry) (e : Entry) (made : ℕ) → e.by < made → any_of found_no_ticket (calls_by e.by log) ≡ 0 → found_no_ticket e ≡ true
    → dries log made + 1 ≤ dries (log ++ e ∷ []) made
dries_one log e made low none dry =
    let last = any_calls_last found_no_ticket log e dry in
    sum_one_more (λ n. any_of found_no_ticket (calls_by n log)) (λ n. any_of found_no_ticket (calls_by n (log ++ e ∷ []))) made e.by low
    (λ k low'. any_calls found_no_ticket k log e) (omega arith)

pub dries_most : (log : List Entry) (made : ℕ) → dries log made ≤ made
dries_most log made = let a = sum_most (λ n. any_of found_no_ticket (calls_by n log)) made 1 (λ k low. any_low found_no_ticket (calls_by k log)) in
    omega arith

barred_grows : (tickets n : ℕ) (log : List Entry) (e : Entry)
    → without_number tickets (calls_by n log) ≤ without_number tickets (calls_by n (log ++ e ∷ []))
barred_grows tickets n log e =
    sum_grows (λ t. any_of (found_no_number t) (calls_by n log)) (λ t. any_of (found_no_number t) (calls_by n (log ++ e ∷ []))) tickets
    (λ t low. any_calls (found_no_number t) n log e)

pub bars_grow : (tickets : ℕ) (log : List Entry) (e : Entry) (made : ℕ) → bars tickets log made ≤ bars tickets (log ++ e ∷ []) made
bars_grow tickets log e made =
    sum_grows (λ n. without_number tickets (calls_by n log)) (λ n. without_number tickets (calls_by n (log ++ e ∷ []))) made
    (λ k low. barred_grows tickets k log e)

pub bars_one : (tickets t : ℕ) (log : List Entry) (e : Entry) (made : ℕ) → t < tickets → e.by < made
    → any_of (found_no_number t) (calls_by e.by log) ≡ 0 → found_no_number t e ≡ true → bars tickets log made + 1 ≤ bars tickets (log ++ e ∷ []) made
bars_one tickets t log e made ticket low none bar =
    let last = any_calls_last (found_no_number t) log e bar in
    sum_one_more (λ n. without_number tickets (calls_by n log)) (λ n. without_number tickets (calls_by n (log ++ e ∷ []))) made e.by low
    (λ k low'. barred_grows tickets k log e)
    (sum_one_more (λ u. any_of (found_no_number u) (calls_by e.by log))
    (λ u. any_of (found_no_number u) (calls_by e.by (log ++ e ∷ []))) tickets t ticket (λ u low'. any_calls (found_no_number u) e.by log e)
    (omega arith))

pub bars_most : (tickets : ℕ) (log : List Entry) (made : ℕ) → bars tickets log made ≤ made * tickets
bars_most tickets log made = sum_most (λ n. without_number tickets (calls_by n log)) made tickets
    (λ k low. let a = sum_most (λ t. any_of (found_no_number t) (calls_by k log)) tickets 1
    (λ t low'. any_low (found_no_number t) (calls_by k log)) in omega arith)
