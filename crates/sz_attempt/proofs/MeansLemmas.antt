-- What a program means for records in parts.
use Rattle.std.proofs.Common.{◌≡◌, ℕ, zero, suc, ◌+◌, ◌*◌, ◌≤◌, List, [], ◌∷◌, ◌++◌, length, take, drop, refl, sym, ap, ◌∙◌, arith, append-nil}
use Rattle.std.proofs.Common.{append_assoc, length-append}
use Rattle.sz_tabs.specs.Data.{EmitDatum}
use Rattle.sz_world_rules.specs.World.{Outcome, Done, Faulted}
use Rattle.sz_mean.specs.Programs.{mean}
use Rattle.sz_mean.proofs.EmitCosts.{emits_are_paid}
use Rattle.sz_attempt.specs.declared.job.Job.{Job}
use Rattle.sz_attempt.specs.Yields.{Faulting, Yield, both, yield_of, means}

-- what comes of no records
abbrev pub nothing : Yield
nothing = record { emits = []; faults = [] }

abbrev yield : List EmitDatum → List Faulting → Yield
yield es fs = record { emits = es; faults = fs }

pub both_nothing : (y : Yield) → y ≡ both nothing y
both_nothing y = refl

pub nothing_both : (y : Yield) → both y nothing ≡ y
nothing_both y = ap (λ es. yield es (y.faults ++ [])) (append-nil y.emits) ∙ ap (yield y.emits) (append-nil y.faults)

pub both_assoc : (a b c : Yield) → both a (both b c) ≡ both (both a b) c
both_assoc a b c =
    ap (λ es. yield es (a.faults ++ (b.faults ++ c.faults))) (sym (append_assoc a.emits b.emits c.emits))
    ∙ ap (yield ((a.emits ++ b.emits) ++ c.emits)) (sym (append_assoc a.faults b.faults c.faults))

-- a list in front of a place and after it
pub take_and_drop : {A : Type 0} (n : ℕ) (xs : List A) → xs ≡ take n xs ++ drop n xs
take_and_drop zero xs = refl
take_and_drop (suc n) [] = refl
take_and_drop (suc n) (x ∷ xs) = ap (λ ys. x ∷ ys) (take_and_drop n xs)

pub take_of_take : {A : Type 0} (n m : ℕ) (xs : List A) → n ≤ m → take n (take m xs) ≡ take n xs
take_of_take zero m xs le = refl
take_of_take (suc n) zero xs le = absurd (omega arith)
take_of_take (suc n) (suc m) [] le = refl
take_of_take (suc n) (suc m) (x ∷ xs) le = ap (λ ys. x ∷ ys) (take_of_take n m xs (omega arith))

pub length-take_within : {A : Type 0} (n : ℕ) (xs : List A) → n ≤ length xs → length (take n xs) ≡ n
length-take_within zero xs le = refl
length-take_within (suc n) [] le = absurd (omega arith)
length-take_within (suc n) (x ∷ xs) le = ap suc (length-take_within n xs (omega arith))

pub take_whole : {A : Type 0} (n : ℕ) (xs : List A) → length xs ≤ n → take n xs ≡ xs
take_whole zero [] le = refl
take_whole zero (x ∷ xs) le = absurd (omega arith)
take_whole (suc n) [] le = refl
take_whole (suc n) (x ∷ xs) le = ap (λ ys. x ∷ ys) (take_whole n xs (omega arith))

-- so many items of the front of a list
pub take_front : {A : Type 0} (n : ℕ) (xs ys : List A) → n ≤ length xs → take n (xs ++ ys) ≡ take n xs
take_front zero xs ys le = refl
take_front (suc n) [] ys le = absurd (omega arith)
take_front (suc n) (x ∷ xs) ys le = ap (λ zs. x ∷ zs) (take_front n xs ys (omega arith))

-- the front of a list is no longer than the list
pub take_shorter : {A : Type 0} (n : ℕ) (xs : List A) → length (take n xs) ≤ length xs
take_shorter zero xs = omega arith
take_shorter (suc n) [] = omega arith
take_shorter (suc n) (x ∷ xs) = let rest = take_shorter n xs in omega (arith, rest)

-- a list is short whose front is
pub take_short : {A : Type 0} (n : ℕ) (xs : List A) → length (take (suc n) xs) ≤ n → length xs ≤ n
take_short n [] le = omega arith
take_short zero (x ∷ xs) le = absurd (omega (arith, le))
take_short (suc n) (x ∷ xs) le = let rest = take_short n xs (omega (arith, le)) in omega (arith, rest)

module _ (job : Job) where
  pub means-append : (n : ℕ) (xs ys : List (List ℕ))
      → means job n (xs ++ ys) ≡ both (means job n xs) (means job (n + length xs) ys)
  means-append n [] ys =
      let same : n + 0 ≡ n = omega arith in
      both_nothing (means job n ys) ∙ ap (λ m. both nothing (means job m ys)) (sym same)
  means-append n (x ∷ xs) ys =
      let same : suc n + length xs ≡ n + suc (length xs) = omega arith in
      let one = yield_of n (mean job.compiled job.statics job.budget x) in
      ap (both one) (means-append (suc n) xs ys)
      ∙ both_assoc one (means job (suc n) xs) (means job (suc n + length xs) ys)
      ∙ ap (λ m. both (both one (means job (suc n) xs)) (means job m ys)) same

  -- one record more
  pub means_more : (n : ℕ) (xs : List (List ℕ)) (x : List ℕ)
      → means job n (xs ++ x ∷ [])
      ≡ both (means job n xs) (yield_of (n + length xs) (mean job.compiled job.statics job.budget x))
  means_more n xs x =
      means-append n xs (x ∷ [])
      ∙ ap (both (means job n xs))
      (nothing_both (yield_of (n + length xs) (mean job.compiled job.statics job.budget x)))

  -- the records that fault of all are those of the first ones and those of the others
  pub faults_in_front : (n i : ℕ) (xs : List (List ℕ))
      → (means job n xs).faults ≡ (means job n (take i xs)).faults
      ++ (means job (n + length (take i xs)) (drop i xs)).faults
  faults_in_front n i xs =
      ap (λ (y : Yield). y.faults) (ap (means job n) (take_and_drop i xs) ∙ means-append n (take i xs) (drop i xs))

  -- of fewer records fewer fault
  pub fewer_faults : (n i j : ℕ) (xs : List (List ℕ)) → j ≤ i
      → length (means job n (take j xs)).faults ≤ length (means job n (take i xs)).faults
  fewer_faults n i j xs le =
      let parts = ap length (faults_in_front n j (take i xs)) in
      let same = ap (λ ys. length (means job n ys).faults) (take_of_take j i xs le) in
      let both = length-append (means job n (take j (take i xs))).faults
      (means job (n + length (take j (take i xs))) (drop j (take i xs))).faults in
      omega (arith, parts, same, both)

  pub fewer_than_all : (n i : ℕ) (xs : List (List ℕ))
      → length (means job n (take i xs)).faults ≤ length (means job n xs).faults
  fewer_than_all n i xs =
      let parts = ap length (faults_in_front n i xs) in
      let both =
      length-append (means job n (take i xs)).faults (means job (n + length (take i xs)) (drop i xs)).faults in
      omega (arith, parts, both)

  -- each record has at most as many emits as it may take ticks
  pub few_emits : (n : ℕ) (rs : List (List ℕ)) → length (means job n rs).emits ≤ job.budget * length rs
  few_emits n [] = omega arith
  few_emits n (r ∷ rs) = by (mean job.compiled job.statics job.budget r) refl (few_emits (suc n) rs)
    where
      by : (o : Outcome (List EmitDatum)) → mean job.compiled job.statics job.budget r ≡ o
          → length (means job (suc n) rs).emits ≤ job.budget * length rs
          → length (both (yield_of n o) (means job (suc n) rs)).emits ≤ job.budget * suc (length rs)
      by (Done es) paid rest =
          let first = emits_are_paid job.compiled job.statics job.budget r es paid in
          omega (arith, first, rest, length-append es (means job (suc n) rs).emits)
      by (Faulted f) paid rest = omega (arith, rest)
