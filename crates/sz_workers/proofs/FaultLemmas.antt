-- The first records that fault of two parts together are the first of the shards of both.
use Rattle.std.proofs.Common.{◌≡◌, ◌⊎◌, ℕ, zero, suc, ◌+◌, ◌<◌, ◌≤◌, List, [], ◌∷◌, ◌++◌, length, take, drop, Bool, true, false, All, refl, sym, ap, ◌∙◌, subst}
use Rattle.std.proofs.Common.{inl, inr, arith, Some, append-nil, append_assoc}
use Rattle.std.specs.Prelude.{slice_get, nat_le, nat_eq, ◌||◌, if◌then◌else◌}
use Rattle.std.proofs.lemmas.Bool.Decides.{nat_tests}
use Rattle.std.proofs.lemmas.List.Elements.{All-nil, All-cons, All-head, All-tail, All-append}
use Rattle.sz_world_rules.specs.World.{Outcome, Done, Faulted}
use Rattle.sz_tabs.specs.Data.{EmitDatum}
use Rattle.sz_mean.specs.Programs.{mean}
use Rattle.sz_words.specs.Lists.{is_among}
use Rattle.sz_book_rules.specs.History.{IsAmong, AreApart}
use Rattle.sz_attempt.specs.declared.job.Job.{Job}
use Rattle.sz_attempt.specs.declared.ends.Skipped.{Skipped}
use Rattle.sz_attempt.specs.Shards.{ShardData}
use Rattle.sz_attempt.specs.Yields.{Faulting, yield_of, means}
use Rattle.sz_attempt.specs.Attempts.{shard_means}
use Rattle.sz_attempt.specs.Ends.{seen_skipped, seen_faults}
use Rattle.sz_workers.specs.Outcomes.{FollowFrom, faults_in}
use Rattle.sz_workers.specs.FirstFaults.{next_of, merged}
use Rattle.sz_workers.specs.Parts.{faults_from}

-- the first so many of both, as plain data
abbrev pub merge : ℕ → List Faulting → List Faulting → List Faulting
merge zero xs ys = []
merge (suc n) [] [] = []
merge (suc n) (x ∷ xs) [] = x ∷ merge n xs []
merge (suc n) [] (y ∷ ys) = y ∷ merge n [] ys
merge (suc n) (x ∷ xs) (y ∷ ys) = if nat_le x.number y.number then x ∷ merge n xs (y ∷ ys) else y ∷ merge n (x ∷ xs) ys

-- the first of two lists, and what is left of each
abbrev Taken : Type 0
Taken = Skipped × List Skipped × List Skipped

-- the next of both, and then the others
pub merged_next : (n : ℕ) (xs ys ps qs : List Skipped) (next : Skipped) → next_of xs ys ≡ Some (next, ps, qs)
    → merged (suc n) xs ys ≡ next ∷ merged n ps qs
merged_next n xs ys ps qs next is = by xs ys is
  where
    same : (t u : Taken) → Some t ≡ Some u → t ≡ u
    same t u e = cc

    one : (t : Taken) → Some t ≡ Some (next, ps, qs) → t.0 ∷ merged n t.1 t.2 ≡ next ∷ merged n ps qs
    one t e = ap (λ (u : Taken). u.0 ∷ merged n u.1 u.2) (same t (next, ps, qs) e)

    either : (b : Bool) (t u : Taken) → (if b then Some t else Some u) ≡ Some (next, ps, qs)
        → (if b then t.0 ∷ merged n t.1 t.2 else u.0 ∷ merged n u.1 u.2) ≡ next ∷ merged n ps qs
    either true t u e = one t e
    either false t u e = one u e

    by : (xs ys : List Skipped) → next_of xs ys ≡ Some (next, ps, qs) → merged (suc n) xs ys ≡ next ∷ merged n ps qs
    by [] [] e = absurd (cc)
    by (x ∷ xs) [] e = one (x, xs, []) e
    by [] (y ∷ ys) e = one (y, [], ys) e
    by (x ∷ xs) (y ∷ ys) e = either (nat_le x.record_no y.record_no) (x, xs, y ∷ ys) (y, x ∷ xs, ys) e

pub seen_merged : (n : ℕ) (xs ys : List Skipped)
    → seen_faults (merged n xs ys) ≡ merge n (seen_faults xs) (seen_faults ys)
seen_merged zero xs ys = refl
seen_merged (suc n) [] [] = refl
seen_merged (suc n) (x ∷ xs) [] = ap (λ l. seen_skipped x ∷ l) (seen_merged n xs [])
seen_merged (suc n) [] (y ∷ ys) = ap (λ l. seen_skipped y ∷ l) (seen_merged n [] ys)
seen_merged (suc n) (x ∷ xs) (y ∷ ys) =
    by (nat_le x.record_no y.record_no) (seen_merged n xs (y ∷ ys)) (seen_merged n (x ∷ xs) ys)
  where
    by : (b : Bool) → seen_faults (merged n xs (y ∷ ys)) ≡ merge n (seen_faults xs) (seen_faults (y ∷ ys))
        → seen_faults (merged n (x ∷ xs) ys) ≡ merge n (seen_faults (x ∷ xs)) (seen_faults ys)
        → seen_faults (if b then x ∷ merged n xs (y ∷ ys) else y ∷ merged n (x ∷ xs) ys)
        ≡ (if b then seen_skipped x ∷ merge n (seen_faults xs) (seen_faults (y ∷ ys))
        else seen_skipped y ∷ merge n (seen_faults (x ∷ xs)) (seen_faults ys))
    by true first other = ap (λ l. seen_skipped x ∷ l) first
    by false first other = ap (λ l. seen_skipped y ∷ l) other

-- the first of two fronts are those of the lists
pub merge_fronts : (n a b : ℕ) (xs ys : List Faulting) → n ≤ a → n ≤ b → merge n (take a xs) (take b ys) ≡ merge n xs ys
merge_fronts zero a b xs ys la lb = refl
merge_fronts (suc n) zero b xs ys la lb = absurd (omega (arith, la))
merge_fronts (suc n) (suc a) zero xs ys la lb = absurd (omega (arith, lb))
merge_fronts (suc n) (suc a) (suc b) [] [] la lb = refl
merge_fronts (suc n) (suc a) (suc b) (x ∷ xs) [] la lb =
    ap (λ l. x ∷ l) (merge_fronts n a (suc b) xs [] (omega (arith, la)) (omega (arith, lb)))
merge_fronts (suc n) (suc a) (suc b) [] (y ∷ ys) la lb =
    ap (λ l. y ∷ l) (merge_fronts n (suc a) b [] ys (omega (arith, la)) (omega (arith, lb)))
merge_fronts (suc n) (suc a) (suc b) (x ∷ xs) (y ∷ ys) la lb =
    by (nat_le x.number y.number) (merge_fronts n a (suc b) xs (y ∷ ys) (omega (arith, la)) (omega (arith, lb)))
    (merge_fronts n (suc a) b (x ∷ xs) ys (omega (arith, la)) (omega (arith, lb)))
  where
    by : (t : Bool) → merge n (take a xs) (y ∷ take b ys) ≡ merge n xs (y ∷ ys)
        → merge n (x ∷ take a xs) (take b ys) ≡ merge n (x ∷ xs) ys
        → (if t then x ∷ merge n (take a xs) (y ∷ take b ys) else y ∷ merge n (x ∷ take a xs) (take b ys))
        ≡ (if t then x ∷ merge n xs (y ∷ ys) else y ∷ merge n (x ∷ xs) ys)
    by true first other = ap (λ l. x ∷ l) first
    by false first other = ap (λ l. y ∷ l) other

-- records below a number, and from it on
abbrev pub AreBelow : ℕ → List Faulting → Type 0
AreBelow m fs = All (λ (f : Faulting). f.number < m) fs

abbrev pub AreFrom : ℕ → List Faulting → Type 0
AreFrom m fs = All (λ (f : Faulting). m ≤ f.number) fs

-- what is below all of the others comes first
pub merge_before : (m : ℕ) (fs xs ys zs : List Faulting) → AreBelow m fs → AreFrom m ys
    → ((n : ℕ) → merge n xs ys ≡ take n zs) → (n : ℕ) → merge n (fs ++ xs) ys ≡ take n (fs ++ zs)
merge_before m [] xs ys zs below from rest n = rest n
merge_before m (f ∷ fs) xs ys zs below from rest zero = refl
merge_before m (f ∷ fs) xs [] zs below from rest (suc n) =
    ap (λ l. f ∷ l) (merge_before m fs xs [] zs (All-tail (λ (g : Faulting). g.number < m) f fs below) from rest n)
merge_before m (f ∷ fs) xs (y ∷ ys) zs below from rest (suc n) =
    ap (λ b. if b then f ∷ merge n (fs ++ xs) (y ∷ ys) else y ∷ merge n (f ∷ (fs ++ xs)) ys)
    (tested f.number y.number m (All-head (λ (g : Faulting). g.number < m) f fs below)
    (All-head (λ (g : Faulting). m ≤ g.number) y ys from)) ∙ ap (λ l. f ∷ l)
    (merge_before m fs xs (y ∷ ys) zs (All-tail (λ (g : Faulting). g.number < m) f fs below) from rest n)
  where
    tested : (a b c : ℕ) → a < c → c ≤ b → nat_le a b ≡ true
    tested a b c l h = let le : a ≤ b = omega (arith, l, h) in grind (arith, nat_tests)

pub merge_after : (m : ℕ) (fs xs ys zs : List Faulting) → AreBelow m fs → AreFrom m xs
    → ((n : ℕ) → merge n xs ys ≡ take n zs) → (n : ℕ) → merge n xs (fs ++ ys) ≡ take n (fs ++ zs)
merge_after m [] xs ys zs below from rest n = rest n
merge_after m (f ∷ fs) xs ys zs below from rest zero = refl
merge_after m (f ∷ fs) [] ys zs below from rest (suc n) =
    ap (λ l. f ∷ l) (merge_after m fs [] ys zs (All-tail (λ (g : Faulting). g.number < m) f fs below) from rest n)
merge_after m (f ∷ fs) (x ∷ xs) ys zs below from rest (suc n) =
    ap (λ b. if b then x ∷ merge n xs (f ∷ (fs ++ ys)) else f ∷ merge n (x ∷ xs) (fs ++ ys))
    (tested x.number f.number m (All-head (λ (g : Faulting). g.number < m) f fs below)
    (All-head (λ (g : Faulting). m ≤ g.number) x xs from)) ∙ ap (λ l. f ∷ l)
    (merge_after m fs (x ∷ xs) ys zs (All-tail (λ (g : Faulting). g.number < m) f fs below) from rest n)
  where
    tested : (a b c : ℕ) → b < c → c ≤ a → nat_le a b ≡ false
    tested a b c l h = let less : b < a = omega (arith, l, h) in grind (arith, nat_tests)

-- the records of a list that fault are numbered as they stand in it
pub above : (m n : ℕ) (fs : List Faulting) → m ≤ n → AreFrom n fs → AreFrom m fs
above m n [] le from = All-nil (λ (f : Faulting). m ≤ f.number)
above m n (f ∷ fs) le from =
    let here = All-head (λ (g : Faulting). n ≤ g.number) f fs from in
    All-cons (λ (g : Faulting). m ≤ g.number) f fs (omega (arith, here, le))
    (above m n fs le (All-tail (λ (g : Faulting). n ≤ g.number) f fs from))

pub numbered_from : (job : Job) (n : ℕ) (rs : List (List ℕ)) → AreFrom n (means job n rs).faults
numbered_from job n [] = All-nil (λ (f : Faulting). n ≤ f.number)
numbered_from job n (r ∷ rs) =
    by (mean job.compiled job.statics job.budget r)
    (above n (suc n) (means job (suc n) rs).faults (omega arith) (numbered_from job (suc n) rs))
  where
    by : (o : Outcome (List EmitDatum)) → AreFrom n (means job (suc n) rs).faults
        → AreFrom n ((yield_of n o).faults ++ (means job (suc n) rs).faults)
    by (Done es) rest = rest
    by (Faulted f) rest = All-cons (λ (g : Faulting). n ≤ g.number) (record { number = n; fault = f })
        (means job (suc n) rs).faults (omega arith) rest

pub numbered_below : (job : Job) (n : ℕ) (rs : List (List ℕ)) → AreBelow (n + length rs) (means job n rs).faults
numbered_below job n [] = All-nil (λ (f : Faulting). f.number < n + 0)
numbered_below job n (r ∷ rs) =
    let same : suc n + length rs ≡ n + suc (length rs) = omega arith in
    by (mean job.compiled job.statics job.budget r)
    (subst (λ m. AreBelow m (means job (suc n) rs).faults) same (numbered_below job (suc n) rs))
  where
    by : (o : Outcome (List EmitDatum)) → AreBelow (n + suc (length rs)) (means job (suc n) rs).faults
        → AreBelow (n + suc (length rs)) ((yield_of n o).faults ++ (means job (suc n) rs).faults)
    by (Done es) rest = rest
    by (Faulted f) rest =
        All-cons (λ (g : Faulting). g.number < n + suc (length rs)) (record { number = n; fault = f })
        (means job (suc n) rs).faults (omega arith) rest

-- whether a place is among others
pub among_by : (s : ℕ) (ss : List ℕ) → is_among s ss ≡ true → IsAmong s ss
among_by s [] h = absurd (cc)
among_by s (t ∷ ss) h = by (nat_eq t s) refl h (among_by s ss)
  where
    equal : (a b : ℕ) → nat_eq a b ≡ true → a ≡ b
    equal a b e = grind (arith, nat_tests)

    by : (b : Bool) → nat_eq t s ≡ b → (b || is_among s ss) ≡ true → (is_among s ss ≡ true → IsAmong s ss)
        → (t ≡ s) ⊎ IsAmong s ss
    by true e g rest = inl (equal t s e)
    by false e g rest = inr (rest g)

pub among_to : (s : ℕ) (ss : List ℕ) → IsAmong s ss → is_among s ss ≡ true
among_to s [] in' = absurd in'
among_to s (t ∷ ss) (inl e) = ap (λ b. b || is_among s ss) (equal t s e)
  where
    equal : (a b : ℕ) → a ≡ b → nat_eq a b ≡ true
    equal a b e = grind (arith, nat_tests)
among_to s (t ∷ ss) (inr h) = by (nat_eq t s) (among_to s ss h)
  where
    by : (b : Bool) → is_among s ss ≡ true → (b || is_among s ss) ≡ true
    by true rest = refl
    by false rest = rest

among_both : (s : ℕ) (ss ts : List ℕ) → is_among s (ss ++ ts) ≡ (is_among s ss || is_among s ts)
among_both s [] ts = refl
among_both s (t ∷ ss) ts = by (nat_eq t s) (among_both s ss ts)
  where
    by : (b : Bool) → is_among s (ss ++ ts) ≡ (is_among s ss || is_among s ts)
        → (b || is_among s (ss ++ ts)) ≡ ((b || is_among s ss) || is_among s ts)
    by true rest = refl
    by false rest = rest

module _ (job : Job) where
  -- the records of shards that fault are numbered from the first on
  pub faults_numbered : (ss : List ℕ) (place first : ℕ) (shards : List ShardData) → FollowFrom first shards
      → AreFrom first (faults_from job ss place shards)
  faults_numbered ss place first [] follow = All-nil (λ (f : Faulting). first ≤ f.number)
  faults_numbered ss place first (s ∷ shards) follow =
      by (is_among place ss)
      (above first (first + length s.records) (faults_from job ss (suc place) shards) (omega arith)
      (faults_numbered ss (suc place) (first + length s.records) shards follow.1))
    where
      here : AreFrom first (shard_means job s).faults
      here = subst (λ m. AreFrom m (shard_means job s).faults) follow.0 (numbered_from job s.first s.records)

      by : (b : Bool) → AreFrom first (faults_from job ss (suc place) shards)
          → AreFrom first ((if b then (shard_means job s).faults else []) ++ faults_from job ss (suc place) shards)
      by true rest = All-append (λ (f : Faulting). first ≤ f.number)
          (shard_means job s).faults (faults_from job ss (suc place) shards) here rest
      by false rest = rest

  -- of two lists of shards that have none in common the records that fault are merged
  pub merge_faults : (ss ts : List ℕ) (place first : ℕ) (shards : List ShardData) → AreApart ss ts
      → FollowFrom first shards → (n : ℕ) → merge n (faults_from job ss place shards)
      (faults_from job ts place shards) ≡ take n (faults_from job (ss ++ ts) place shards)
  merge_faults ss ts place first [] apart follow zero = refl
  merge_faults ss ts place first [] apart follow (suc n) = refl
  merge_faults ss ts place first (s ∷ shards) apart follow n =
      by (is_among place ss) (is_among place ts) refl refl
      (merge_faults ss ts (suc place) (first + length s.records) shards apart follow.1)
      ∙ sym (ap (λ b. take n ((if b then (shard_means job s).faults else [])
      ++ faults_from job (ss ++ ts) (suc place) shards)) (among_both place ss ts))
    where
      low : AreBelow (first + length s.records) (shard_means job s).faults
      low = subst (λ m. AreBelow (m + length s.records) (shard_means job s).faults) follow.0
          (numbered_below job s.first s.records)

      by : (x y : Bool) → is_among place ss ≡ x → is_among place ts ≡ y
          → ((k : ℕ) → merge k (faults_from job ss (suc place) shards) (faults_from job ts (suc place) shards)
          ≡ take k (faults_from job (ss ++ ts) (suc place) shards))
          → merge n ((if x then (shard_means job s).faults else []) ++ faults_from job ss (suc place) shards)
          ((if y then (shard_means job s).faults else []) ++ faults_from job ts (suc place) shards)
          ≡ take n
          ((if x || y then (shard_means job s).faults else []) ++ faults_from job (ss ++ ts) (suc place) shards)
      by true true e f rest = absurd (apart place (among_by place ss e) (among_by place ts f))
      by true false e f rest =
          merge_before (first + length s.records) (shard_means job s).faults (faults_from job ss (suc place) shards)
          (faults_from job ts (suc place) shards) (faults_from job (ss ++ ts) (suc place) shards) low
          (faults_numbered ts (suc place) (first + length s.records) shards follow.1) rest n
      by false true e f rest =
          merge_after (first + length s.records) (shard_means job s).faults (faults_from job ss (suc place) shards)
          (faults_from job ts (suc place) shards) (faults_from job (ss ++ ts) (suc place) shards) low
          (faults_numbered ss (suc place) (first + length s.records) shards follow.1) rest n
      by false false e f rest = rest n

  -- no shards have no records that fault
  pub faults_of_none : (place : ℕ) (shards : List ShardData) → faults_from job [] place shards ≡ []
  faults_of_none place [] = refl
  faults_of_none place (s ∷ shards) = faults_of_none (suc place) shards

  none_before : (p place : ℕ) (shards : List ShardData) → p < place → faults_from job (p ∷ []) place shards ≡ []
  none_before p place [] less = refl
  none_before p place (s ∷ shards) less =
      ap (λ b. (if b || false then (shard_means job s).faults else []) ++ faults_from job (p ∷ []) (suc place) shards)
      (unequal p place less) ∙ none_before p (suc place) shards (omega (arith, less))
    where
      unequal : (a b : ℕ) → a < b → nat_eq a b ≡ false
      unequal a b l = grind (arith, nat_tests)

  -- those of one shard are its own
  pub faults_of_one : (place i : ℕ) (shards : List ShardData) (shard : ShardData) → slice_get shards i ≡ Some shard
      → faults_from job ((place + i) ∷ []) place shards ≡ (shard_means job shard).faults
  faults_of_one place i [] shard there = absurd (cc)
  faults_of_one place zero (s ∷ shards) shard there =
      let same : place + 0 ≡ place = omega arith in
      ap (λ p. faults_from job (p ∷ []) place (s ∷ shards)) same
      ∙ ap (λ b. (if b || false then (shard_means job s).faults else [])
      ++ faults_from job (place ∷ []) (suc place) shards) (equal place)
      ∙ ap (λ l. (shard_means job s).faults ++ l) (none_before place (suc place) shards (omega arith))
      ∙ append-nil (shard_means job s).faults ∙ ap (λ q. (shard_means job q).faults) (some_same s there)
    where
      equal : (a : ℕ) → nat_eq a a ≡ true
      equal a = grind (arith, nat_tests)

      some_same : (a : ShardData) → Some a ≡ Some shard → a ≡ shard
      some_same a e = cc
  faults_of_one place (suc i) (s ∷ shards) shard there =
      let same : place + suc i ≡ suc place + i = omega arith in
      ap (λ b. (if b || false then (shard_means job s).faults else [])
      ++ faults_from job ((place + suc i) ∷ []) (suc place) shards) (unequal (place
      + suc i) place (omega arith))
      ∙ ap (λ p. faults_from job (p ∷ []) (suc place) shards) same ∙ faults_of_one (suc place) i shards shard there
    where
      unequal : (a b : ℕ) → b < a → nat_eq a b ≡ false
      unequal a b l = grind (arith, nat_tests)

  -- where all shards in front of a place are among them, their records that fault come first
  pub faults_of_front : (ss : List ℕ) (place n : ℕ) (shards : List ShardData)
      → ((s : ℕ) → s < n → IsAmong (place + s) ss) → faults_from job ss place shards ≡ faults_in job (take n shards)
      ++ faults_from job ss (place + n) (drop n shards)
  faults_of_front ss place zero shards all = let same : place ≡ place + 0 = omega arith in
      ap (λ p. faults_from job ss p shards) same
  faults_of_front ss place (suc n) [] all = refl
  faults_of_front ss place (suc n) (x ∷ shards) all =
      let here : place + 0 ≡ place = omega arith in
      let next : suc place + n ≡ place + suc n = omega arith in
      ap (λ b. (if b then (shard_means job x).faults else []) ++ faults_from job ss (suc place) shards)
      (among_to place ss (subst (λ p. IsAmong p ss) here (all 0 (omega arith))))
      ∙ ap (λ l. (shard_means job x).faults ++ l)
      (faults_of_front ss (suc place) n shards
      (λ s l. subst (λ p. IsAmong p ss) (shift s) (all (suc s) (omega (arith, l)))))
      ∙ sym (append_assoc (shard_means job x).faults (faults_in job (take n shards))
      (faults_from job ss (suc place + n) (drop n shards))) ∙ ap (λ p.
      ((shard_means job x).faults ++ faults_in job (take n shards)) ++ faults_from job ss p (drop n shards)) next
    where
      shift : (s : ℕ) → place + suc s ≡ suc place + s
      shift s = omega arith

  -- the shards from a place on follow each other
  pub follow_drop : (first n : ℕ) (shards : List ShardData) (shard : ShardData) → FollowFrom first shards
      → slice_get shards n ≡ Some shard → FollowFrom shard.first (drop n shards) × (first ≤ shard.first)
  follow_drop first n [] shard follow there = absurd (cc)
  follow_drop first zero (x ∷ shards) shard follow there =
      let same : x ≡ shard = some_same x there in
      let start = ap (λ (q : ShardData). q.first) same in
      (subst (λ m. FollowFrom m (x ∷ shards)) (sym follow.0 ∙ start) follow, omega (arith, follow.0, start))
    where
      some_same : (a : ShardData) → Some a ≡ Some shard → a ≡ shard
      some_same a e = cc
  follow_drop first (suc n) (x ∷ shards) shard follow there =
      let rest = follow_drop (first + length x.records) n shards shard follow.1 there in (rest.0, omega (arith, rest.1))

  below_more : (m n : ℕ) (fs : List Faulting) → m ≤ n → AreBelow m fs → AreBelow n fs
  below_more m n [] le below = All-nil (λ (f : Faulting). f.number < n)
  below_more m n (f ∷ fs) le below =
      let here = All-head (λ (g : Faulting). g.number < m) f fs below in
      All-cons (λ (g : Faulting). g.number < n) f fs (omega (arith, here, le))
      (below_more m n fs le (All-tail (λ (g : Faulting). g.number < m) f fs below))

  -- the records in front of a shard that fault are numbered below its first
  pub faults_below : (first n : ℕ) (shards : List ShardData) (shard : ShardData) → FollowFrom first shards
      → slice_get shards n ≡ Some shard → AreBelow shard.first (faults_in job (take n shards))
  faults_below first n [] shard follow there = absurd (cc)
  faults_below first zero (x ∷ shards) shard follow there = All-nil (λ (f : Faulting). f.number < shard.first)
  faults_below first (suc n) (x ∷ shards) shard follow there =
      let later = follow_drop (first + length x.records) n shards shard follow.1 there in
      let here = below_more (x.first + length x.records) shard.first (shard_means job x).faults
      (omega (arith, later.1, follow.0)) (numbered_below job x.first x.records) in
      All-append (λ (f : Faulting). f.number < shard.first)
      (shard_means job x).faults (faults_in job (take n shards)) here
      (faults_below (first + length x.records) n shards shard follow.1 there)

-- an item of two lists that is numbered below the second is one of the first
pub got_in_front : (m : ℕ) (fs gs : List Faulting) (i : ℕ) (one : Faulting) → AreFrom m gs
    → slice_get (fs ++ gs) i ≡ Some one → one.number < m → slice_get fs i ≡ Some one
got_in_front m [] [] i one from there less = absurd (cc)
got_in_front m [] (g ∷ gs) zero one from there less =
    let same : g.number ≡ one.number = some_same g there in
    let here = All-head (λ (f : Faulting). m ≤ f.number) g gs from in
    absurd (omega (arith, same, here, less))
  where
    some_same : (a : Faulting) → Some a ≡ Some one → a.number ≡ one.number
    some_same a e = cc
got_in_front m [] (g ∷ gs) (suc i) one from there less =
    let wrong = got_in_front m [] gs i one (All-tail (λ (f : Faulting). m ≤ f.number) g gs from) there less in
    absurd (cc)
got_in_front m (f ∷ fs) gs zero one from there less = there
got_in_front m (f ∷ fs) gs (suc i) one from there less = got_in_front m fs gs i one from there less

-- an item that is not numbered below the second list is none of the first
pub got_behind : (m : ℕ) (fs gs : List Faulting) (i : ℕ) (one : Faulting) → AreBelow m fs
    → slice_get (fs ++ gs) i ≡ Some one → m ≤ one.number → length fs ≤ i
got_behind m [] gs i one below there le = omega arith
got_behind m (f ∷ fs) gs zero one below there le =
    let same : f.number ≡ one.number = some_same f there in
    let here = All-head (λ (g : Faulting). g.number < m) f fs below in
    absurd (omega (arith, same, here, le))
  where
    some_same : (a : Faulting) → Some a ≡ Some one → a.number ≡ one.number
    some_same a e = cc
got_behind m (f ∷ fs) gs (suc i) one below there le =
    let rest = got_behind m fs gs i one (All-tail (λ (g : Faulting). g.number < m) f fs below) there le in
    omega (arith, rest)
