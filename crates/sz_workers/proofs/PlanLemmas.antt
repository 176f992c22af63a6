-- Tickets in order of shards, made one shard after the other.
use Rattle.std.proofs.Common.{◌≡◌, ℕ, zero, suc, ◌+◌, ◌<◌, ◌≤◌, List, [], ◌∷◌, ◌++◌, length, Bool, true, false}
use Rattle.std.proofs.Common.{◌⊎◌, inl, inr, refl, sym, ap, ◌∙◌, subst, arith, length-append, append_assoc, append-nil}
use Rattle.std.specs.Prelude.{slice_index, ◌==◌, if◌then◌else◌}
use Rattle.std.proofs.lemmas.Bool.Decides.{nat_tests}
use Rattle.sz_book_rules.specs.Plan.{IsPlan, tickets_of}
use Rattle.sz_words.specs.Lists.{is_among}
use Rattle.sz_attempt.specs.declared.job.Job.{Job}
use Rattle.sz_workers.specs.declared.round.Round.{Round}
use Rattle.sz_workers.specs.Rounds.{IsRound}
use Rattle.sz_workers.specs.RoundTickets.{AllBelow, AreTickets, IsPlanOf, tickets_for, tickets_upto}

-- a list with one item after it, at its places
push_front : (ts : List ℕ) (x i : ℕ) → i < length ts → slice_index (ts ++ x ∷ []) i ≡ slice_index ts i
push_front [] x i less = absurd (omega arith)
push_front (t ∷ ts) x zero less = refl
push_front (t ∷ ts) x (suc i) less = push_front ts x i (omega arith)

push_last : (ts : List ℕ) (x : ℕ) → slice_index (ts ++ x ∷ []) (length ts) ≡ x
push_last [] x = refl
push_last (t ∷ ts) x = push_last ts x

length_push : (ts : List ℕ) (x : ℕ) → length (ts ++ x ∷ []) ≡ length ts + 1
length_push ts x = length-append ts (x ∷ [])

count_push : (s : ℕ) (ts : List ℕ) (x : ℕ)
    → tickets_of s (ts ++ x ∷ []) ≡ (if x == s then tickets_of s ts + 1 else tickets_of s ts)
count_push s [] x = refl
count_push s (t ∷ ts) x = by (t == s) (x == s) (count_push s ts x)
  where
    by : (a b : Bool) → tickets_of s (ts ++ x ∷ []) ≡ (if b then tickets_of s ts + 1 else tickets_of s ts)
        → (if a then tickets_of s (ts ++ x ∷ []) + 1 else tickets_of s (ts ++ x ∷ []))
        ≡ (if b then (if a then tickets_of s ts + 1 else tickets_of s ts) + 1 else if a then tickets_of s ts + 1
        else tickets_of s ts)
    by true true h = ap (λ n. n + 1) h
    by true false h = ap (λ n. n + 1) h
    by false true h = h
    by false false h = h

counted : (s : ℕ) (ts : List ℕ) (x : ℕ) → x ≡ s → tickets_of s (ts ++ x ∷ []) ≡ tickets_of s ts + 1
counted s ts x same = count_push s ts x ∙ ap (λ b. if b then tickets_of s ts + 1 else tickets_of s ts) (test x s same)
  where
    test : (a b : ℕ) → a ≡ b → (a == b) ≡ true
    test a b e = grind (arith, nat_tests)

passed : (s : ℕ) (ts : List ℕ) (x : ℕ) → ¬ (x ≡ s) → tickets_of s (ts ++ x ∷ []) ≡ tickets_of s ts
passed s ts x apart =
    count_push s ts x ∙ ap (λ b. if b then tickets_of s ts + 1 else tickets_of s ts) (test (x == s) refl)
  where
    equal : (a b : ℕ) → (a == b) ≡ true → a ≡ b
    equal a b e = grind (arith, nat_tests)

    test : (b : Bool) → (x == s) ≡ b → b ≡ false
    test true e = absurd (apart (equal x s e))
    test false e = refl

-- one ticket more
below_push : (ts : List ℕ) (x n : ℕ) → AllBelow ts n → x < n → AllBelow (ts ++ x ∷ []) n
below_push ts x n h less t there = by (order t (length ts)) (omega (arith, there, length_push ts x))
  where
    order : (a b : ℕ) → (a ≡ b) ⊎ ((a < b) ⊎ (b < a))
    order a b = grind arith

    by : (t ≡ length ts) ⊎ ((t < length ts) ⊎ (length ts < t)) → t < length ts + 1 → slice_index (ts ++ x ∷ []) t < n
    by (inl e) l = let last = ap (slice_index (ts ++ x ∷ [])) e ∙ push_last ts x in omega (arith, last, less)
    by (inr (inl below)) l = let front = push_front ts x t below in let is = h t below in omega (arith, front, is)
    by (inr (inr above)) l = absurd (omega (arith, above, l))

no_tickets : AreTickets 0 []
no_tickets = record {
  below = λ t less. absurd (omega arith);
  each = λ s less. absurd (omega arith);
  others = λ s le. refl;
  few = omega arith;
}

-- one shard more with its first ticket
first_ticket : (n : ℕ) (ts : List ℕ) → AreTickets n ts → AreTickets (n + 1) (ts ++ n ∷ [])
first_ticket n ts h = record {
  below = below_push ts n (n + 1) (λ t less. let is = h.below t less in omega (arith, is)) (omega arith);
  each = λ s less. by s less (order s n);
  others = λ s le. passed s ts n (λ e. absurd (omega (arith, le, e))) ∙ h.others s (omega (arith, le));
  few = omega (arith, h.few, length_push ts n);
}
  where
    order : (a b : ℕ) → (a ≡ b) ⊎ ((a < b) ⊎ (b < a))
    order a b = grind arith

    by : (s : ℕ) → s < n + 1 → (s ≡ n) ⊎ ((s < n) ⊎ (n < s))
        → (1 ≤ tickets_of s (ts ++ n ∷ [])) × (tickets_of s (ts ++ n ∷ []) ≤ 2)
    by s less (inl e) =
        let is = counted s ts n (sym e) in
        let none = h.others s (omega (arith, e)) in
        (omega (arith, is, none), omega (arith, is, none))
    by s less (inr (inl below)) =
        let is = passed s ts n (λ e. absurd (omega (arith, below, e))) in
        let each = h.each s below in
        (omega (arith, is, each.0), omega (arith, is, each.1))
    by s less (inr (inr above)) = absurd (omega (arith, less, above))

-- and with a second one
second_ticket : (n : ℕ) (ts : List ℕ) → AreTickets n ts → AreTickets (n + 1) ((ts ++ n ∷ []) ++ n ∷ [])
second_ticket n ts h =
    let one = first_ticket n ts h in
    record {
      below = below_push (ts ++ n ∷ []) n (n + 1) one.below (omega arith);
      each = λ s less. by s less (order s n);
      others = λ s le. passed s (ts ++ n ∷ []) n (λ e. absurd (omega (arith, le, e))) ∙ one.others s le;
      few = omega (arith, h.few, length_push ts n, length_push (ts ++ n ∷ []) n);
    }
  where
    order : (a b : ℕ) → (a ≡ b) ⊎ ((a < b) ⊎ (b < a))
    order a b = grind arith

    by : (s : ℕ) → s < n + 1 → (s ≡ n) ⊎ ((s < n) ⊎ (n < s))
        → (1 ≤ tickets_of s ((ts ++ n ∷ []) ++ n ∷ [])) × (tickets_of s ((ts ++ n ∷ []) ++ n ∷ []) ≤ 2)
    by s less (inl e) =
        let is = counted s (ts ++ n ∷ []) n (sym e) in
        let front = counted s ts n (sym e) in
        let none = h.others s (omega (arith, e)) in
        (omega (arith, is, front, none), omega (arith, is, front, none))
    by s less (inr (inl below)) =
        let is = passed s (ts ++ n ∷ []) n (λ e. absurd (omega (arith, below, e))) in
        let front = passed s ts n (λ e. absurd (omega (arith, below, e))) in
        let each = h.each s below in
        (omega (arith, is, front, each.0), omega (arith, is, front, each.1))
    by s less (inr (inr above)) = absurd (omega (arith, less, above))

-- one shard more, with one or two tickets
shard_more : (n : ℕ) (ts more new : List ℕ) → AreTickets n ts → new ≡ (ts ++ n ∷ []) ++ more
    → (more ≡ []) ⊎ (more ≡ n ∷ []) → AreTickets (n + 1) new
shard_more n ts more new h is (inl none) =
    subst (AreTickets (n + 1)) (sym (is ∙ ap (λ ms. (ts ++ n ∷ []) ++ ms) none ∙ nothing (ts ++ n ∷ [])))
    (first_ticket n ts h)
  where
    nothing : (xs : List ℕ) → xs ++ [] ≡ xs
    nothing [] = refl
    nothing (x ∷ xs) = ap (λ ys. x ∷ ys) (nothing xs)
shard_more n ts more new h is (inr one) =
    subst (AreTickets (n + 1)) (sym (is ∙ ap (λ ms. (ts ++ n ∷ []) ++ ms) one)) (second_ticket n ts h)

-- the tickets of so many shards are these
pub upto_more : (twice : List ℕ) (first n : ℕ) (old new : List ℕ) (doubled : Bool) → old ≡ tickets_upto twice first n
    → doubled ≡ is_among (first + n) twice
    → new ≡ old ++ tickets_for doubled n → new ≡ tickets_upto twice first (n + 1)
upto_more twice first n old new doubled so test is =
    let next : n + 1 ≡ suc n = omega arith in
    is ∙ ap (λ ts. ts ++ tickets_for doubled n) so ∙ ap (λ b. tickets_upto twice first n ++ tickets_for b n) test
    ∙ ap (tickets_upto twice first) (sym next)

upto_are : (twice : List ℕ) (first n : ℕ) → AreTickets n (tickets_upto twice first n)
upto_are twice first zero = no_tickets
upto_are twice first (suc n) =
    let next : n + 1 ≡ suc n = omega arith in
    subst (λ m. AreTickets m (tickets_upto twice first (suc n))) next
    (by (is_among (first + n) twice) (tickets_upto twice first n) (upto_are twice first n))
  where
    by : (b : Bool) (ts : List ℕ) → AreTickets n ts → AreTickets (n + 1) (ts ++ tickets_for b n)
    by true ts h = shard_more n ts (n ∷ []) (ts ++ n ∷ n ∷ []) h (sym (append_assoc ts (n ∷ []) (n ∷ []))) (inr refl)
    by false ts h = shard_more n ts [] (ts ++ n ∷ []) h (sym (append-nil (ts ++ n ∷ []))) (inl refl)

-- they make the plan of a round
module _ (job : Job) (round : Round) (shards : ℕ) (tickets : List ℕ)
    (attempts : (1 ≤ job.attempts) × (job.attempts ≤ 8)) (is : IsRound round)
    (same : shards ≡ length round.shards) (made : tickets ≡ tickets_upto job.twice round.first_shard shards) where
  are : AreTickets shards tickets
  are = subst (AreTickets shards) (sym made) (upto_are job.twice round.first_shard shards)

  pub makes_plan : IsPlan (record { shards = shards; attempts = job.attempts; tickets = tickets })
  makes_plan = record {
    shards = omega (arith, is.few, same);
    attempts = attempts;
    tickets = omega (arith, is.few, same, are.few);
    within = are.below;
    each = are.each;
  }

  pub plan_of_round : IsPlanOf job round (record { shards = shards; attempts = job.attempts; tickets = tickets })
  plan_of_round = record {
    plan = makes_plan;
    shards = same;
    attempts = refl;
    tickets = made;
  }
