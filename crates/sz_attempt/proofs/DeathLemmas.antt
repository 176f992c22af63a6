-- Which of several numbers is the least, and by which kill an attempt dies.
use Rattle.std.proofs.Common.{◌≡◌, ℕ, suc, ◌+◌, ◌<◌, ◌≤◌, ◌⊎◌, inl, inr, List, [], ◌∷◌, ◌++◌, length, take, drop, min, Bool, true, false, cond, Option, Some, None}
use Rattle.std.proofs.Common.{refl, sym, ap, ◌∙◌, arith}
use Rattle.std.specs.Prelude.{filter, nat_le, ◌&&◌, if◌then◌else◌}
use Rattle.std.proofs.lemmas.Bool.Decides.{nat_tests}
use Rattle.sz_attempt.specs.declared.job.Job.{Job}
use Rattle.sz_attempt.specs.Shards.{ShardData}
use Rattle.sz_attempt.specs.Yields.{Yield, means}
use Rattle.sz_attempt.specs.Attempts.{gives, fails, dies, kills_of, lesser, least_of, passes, living_end, end_by, shard_means, front_means, has_effect, end_of}
use Rattle.sz_attempt.specs.ShardRuns.{IsDeath, run_of}
use Rattle.sz_attempt.proofs.MeansLemmas.{fewer_faults, fewer_than_all, faults_in_front, take_front}

-- one number more
pub least_push : (ns : List ℕ) (n : ℕ) → least_of (ns ++ n ∷ []) ≡ Some (lesser n (least_of ns))
least_push [] n = refl
least_push (m ∷ ms) n = ap (λ o. Some (lesser m o)) (least_push ms n) ∙ ap Some (by (least_of ms))
  where
    by : (o : Option ℕ) → min m (lesser n o) ≡ min n (lesser m o)
    by None = omega arith
    by (Some k) = omega arith

-- the number, if it passes
abbrev pub kept : (ℕ → Bool) → Option ℕ → Option ℕ
kept p None = None
kept p (Some n) = if p n then Some n else None

-- the least of the numbers that pass is the least of all, if that one passes, where with a number all lesser ones pass
module _ (p : ℕ → Bool) (closed : (a b : ℕ) → b ≤ a → p a ≡ true → p b ≡ true) where
  both : (n m : ℕ) (a b : Bool) → p n ≡ a → p m ≡ b
      → kept p (Some (min n m))
      ≡ (if a then Some (lesser n (if b then Some m else None)) else if b then Some m else None)
  both n m a b is_n is_m = by_order (order n m)
    where
      order : (x y : ℕ) → (x ≤ y) ⊎ (y ≤ x)
      order x y = grind arith

      least_first : n ≤ m → (a b : Bool) → p n ≡ a → p m ≡ b
          → (if a then Some n else None)
          ≡ (if a then Some (lesser n (if b then Some m else None)) else if b then Some m else None)
      least_first le true true e f = let same : min n m ≡ n = omega (arith, le) in ap Some (sym same)
      least_first le true false e f = refl
      least_first le false true e f = absurd (let bad = closed m n le f in cc)
      least_first le false false e f = refl

      least_last : m ≤ n → (a b : Bool) → p n ≡ a → p m ≡ b
          → (if b then Some m else None)
          ≡ (if a then Some (lesser n (if b then Some m else None)) else if b then Some m else None)
      least_last le true true e f = let same : min n m ≡ m = omega (arith, le) in ap Some (sym same)
      least_last le true false e f = absurd (let bad = closed n m le e in cc)
      least_last le false true e f = refl
      least_last le false false e f = refl

      by_order : (n ≤ m) ⊎ (m ≤ n) → kept p (Some (min n m))
          ≡ (if a then Some (lesser n (if b then Some m else None)) else if b then Some m else None)
      by_order (inl le) =
          let same : min n m ≡ n = omega (arith, le) in
          ap (λ k. kept p (Some k)) same ∙ ap (λ c. if c then Some n else None) is_n ∙ least_first le a b is_n is_m
      by_order (inr le) =
          let same : min n m ≡ m = omega (arith, le) in
          ap (λ k. kept p (Some k)) same ∙ ap (λ c. if c then Some m else None) is_m ∙ least_last le a b is_n is_m

  pub least_kept : (ns : List ℕ) → least_of (filter p ns) ≡ kept p (least_of ns)
  least_kept [] = refl
  least_kept (n ∷ ns) = by (p n) refl (least_of ns) (least_kept ns)
    where
      by : (a : Bool) → p n ≡ a → (o : Option ℕ) → least_of (filter p ns) ≡ kept p o
          → least_of (cond a (n ∷ filter p ns) (filter p ns)) ≡ kept p (Some (lesser n o))
      by true is None rest = ap (λ q. Some (lesser n q)) rest ∙ sym (ap (λ c. if c then Some n else None) is)
      by false is None rest = rest ∙ sym (ap (λ c. if c then Some n else None) is)
      by true is (Some m) rest = ap (λ q. Some (lesser n q)) rest ∙ sym (both n m true (p m) is refl)
      by false is (Some m) rest = rest ∙ sym (both n m false (p m) is refl)

-- whether no more records fault than may be passed over
pub few_pass : (skip : ℕ) (y : Yield) → length y.faults ≤ skip → passes skip y ≡ true
few_pass skip y le = tested (length y.faults) skip le
  where
    tested : (a b : ℕ) → a ≤ b → nat_le a b ≡ true
    tested a b l = grind (arith, nat_tests)

pub many_fail : (skip : ℕ) (y : Yield) → skip < length y.faults → passes skip y ≡ false
many_fail skip y less = tested (length y.faults) skip less
  where
    tested : (a b : ℕ) → b < a → nat_le a b ≡ false
    tested a b l = grind (arith, nat_tests)

pub passed_are_few : (skip : ℕ) (y : Yield) → passes skip y ≡ true → length y.faults ≤ skip
passed_are_few skip y h = tested (length y.faults) skip h
  where
    tested : (a b : ℕ) → nat_le a b ≡ true → a ≤ b
    tested a b e = grind (arith, nat_tests)

-- how an attempt ends that lives
pub living_part : (skip : ℕ) (y : Yield) → length y.faults ≤ skip → living_end skip y ≡ gives y.emits y.faults
living_part skip y le =
    ap (λ b. if b then gives y.emits y.faults else fails (take (suc skip) y.faults)) (few_pass skip y le)

pub living_bad : (skip : ℕ) (y : Yield) → skip < length y.faults → living_end skip y ≡ fails (take (suc skip) y.faults)
living_bad skip y less =
    ap (λ b. if b then gives y.emits y.faults else fails (take (suc skip) y.faults)) (many_fail skip y less)

-- how an attempt ends, by the least of its kills
module _ (job : Job) (shard : ShardData) where
  pub effect_closed : (a b : ℕ) → b ≤ a → has_effect job shard a ≡ true → has_effect job shard b ≡ true
  effect_closed a b le h =
      let parts = both_true (nat_le a (length shard.records)) (passes job.skip (front_means job shard a)) h in
      let fewer = fewer_faults job shard.first a b shard.records le in
      true_both (nat_le b (length shard.records)) (passes job.skip (front_means job shard b))
      (lower a b (length shard.records) le parts.0) (lower (length (front_means job shard a).faults)
      (length (front_means job shard b).faults) job.skip fewer parts.1)
    where
      both_true : (x y : Bool) → (x && y) ≡ true → (x ≡ true) × (y ≡ true)
      both_true true true e = (refl, refl)
      both_true true false e = absurd (cc)
      both_true false y e = absurd (cc)

      true_both : (x y : Bool) → x ≡ true → y ≡ true → (x && y) ≡ true
      true_both true true e f = refl
      true_both true false e f = absurd (cc)
      true_both false y e f = absurd (cc)

      lower : (x y n : ℕ) → y ≤ x → nat_le x n ≡ true → nat_le y n ≡ true
      lower x y n l e = grind (arith, nat_tests)

  pub end_by_least : (k : ℕ)
      → end_of job shard k ≡ end_by job.skip
      (kept (has_effect job shard) (least_of (kills_of shard.number k job.kills))) (shard_means job shard)
  end_by_least k =
      ap (λ o. end_by job.skip o (shard_means job shard))
      (least_kept (has_effect job shard) effect_closed (kills_of shard.number k job.kills))

  effect_is : (after : ℕ) (c : Bool) → after ≤ length shard.records
      → passes job.skip (front_means job shard after) ≡ c → has_effect job shard after ≡ c
  effect_is after c le is =
      ap (λ b. b && passes job.skip (front_means job shard after)) (tested after (length shard.records) le) ∙ is
    where
      tested : (x n : ℕ) → x ≤ n → nat_le x n ≡ true
      tested x n l = grind (arith, nat_tests)

  no_effect : (after : ℕ) → length shard.records < after → has_effect job shard after ≡ false
  no_effect after less =
      ap (λ b. b && passes job.skip (front_means job shard after)) (tested after (length shard.records) less)
    where
      tested : (x n : ℕ) → n < x → nat_le x n ≡ false
      tested x n l = grind (arith, nat_tests)

  -- the attempt dies where its death is listed and no more of the records before it fault than may be passed over
  pub dies_so : (k after : ℕ) → IsDeath (kills_of shard.number k job.kills) (length shard.records) (Some after)
      → length (front_means job shard after).faults ≤ job.skip → end_of job shard k ≡ dies after
  dies_so k after death few =
      end_by_least k ∙ ap (λ o. end_by job.skip (kept (has_effect job shard) o) (shard_means job shard)) death.0
      ∙ ap (λ c. end_by job.skip (if c then Some after else None) (shard_means job shard))
      (effect_is after true death.1 (few_pass job.skip (front_means job shard after) few))

  -- it lives where no death is listed within the records
  lives : (k : ℕ) → IsDeath (kills_of shard.number k job.kills) (length shard.records) None
      → end_of job shard k ≡ living_end job.skip (shard_means job shard)
  lives k death = end_by_least k ∙ by (least_of (kills_of shard.number k job.kills)) refl
    where
      by : (o : Option ℕ) → least_of (kills_of shard.number k job.kills) ≡ o
          → end_by job.skip (kept (has_effect job shard) o) (shard_means job shard)
          ≡ living_end job.skip (shard_means job shard)
      by None is = refl
      by (Some after) is = ap (λ c. end_by job.skip (if c then Some after else None) (shard_means job shard))
          (no_effect after (death after is))

  -- where too many of the first records fault, these are the first of all that fault
  bad_of_front : (i : ℕ) → job.skip < length (front_means job shard i).faults
      → living_end job.skip (shard_means job shard) ≡ fails (take (suc job.skip) (front_means job shard i).faults)
  bad_of_front i less =
      let fewer = fewer_than_all job shard.first i shard.records in
      living_bad job.skip (shard_means job shard) (omega (arith, less, fewer))
      ∙ ap (λ fs. fails (take (suc job.skip) fs)) (faults_in_front job shard.first i shard.records)
      ∙ ap fails (take_front (suc job.skip) (front_means job shard i).faults
      (means job (shard.first + length (take i shard.records)) (drop i shard.records)).faults (omega (arith, less)))

  -- or where too many fault before its death
  pub fails_so : (k : ℕ) (death : Option ℕ) → IsDeath (kills_of shard.number k job.kills) (length shard.records) death
      → job.skip < length (front_means job shard (run_of death (length shard.records))).faults
      → end_of job shard k
      ≡ fails (take (suc job.skip) (front_means job shard (run_of death (length shard.records))).faults)
  fails_so k None death less = lives k death ∙ bad_of_front (length shard.records) less
  fails_so k (Some after) death less =
      end_by_least k ∙ ap (λ o. end_by job.skip (kept (has_effect job shard) o) (shard_means job shard)) death.0
      ∙ ap (λ c. end_by job.skip (if c then Some after else None) (shard_means job shard))
      (effect_is after false death.1 (many_fail job.skip (front_means job shard after) less))
      ∙ bad_of_front after less

  -- no death is listed, and no more records fault than may be passed over
  pub gives_so : (k : ℕ) → IsDeath (kills_of shard.number k job.kills) (length shard.records) None
      → length (shard_means job shard).faults ≤ job.skip
      → end_of job shard k ≡ gives (shard_means job shard).emits (shard_means job shard).faults
  gives_so k death few = lives k death ∙ living_part job.skip (shard_means job shard) few
