-- What comes of shards in parts, and which of them decides.
use Rattle.std.proofs.Common.{◌≡◌, ℕ, zero, suc, ◌+◌, ◌-◌, ◌<◌, ◌≤◌, List, [], ◌∷◌, ◌++◌, length, take, drop, Bool, true, false, Option, Some, None}
use Rattle.std.proofs.Common.{◌⊎◌, inl, inr, refl, sym, ap, ◌∙◌, subst, arith, append_assoc, append-nil, length-append}
use Rattle.std.specs.Prelude.{slice_get, if◌then◌else◌, ◌&&◌}
use Rattle.sz_tabs.specs.Data.{EmitDatum}
use Rattle.sz_attempt.specs.declared.job.Job.{Job}
use Rattle.sz_attempt.specs.Shards.{ShardData}
use Rattle.sz_attempt.specs.Yields.{Faulting, Yield, both, means}
use Rattle.sz_attempt.specs.Attempts.{gives, fails, dies, least_of, end_by, passes, shard_means, deaths_of, end_of, dies_at, all_die, is_lost}
use Rattle.sz_attempt.proofs.ForCallers.{means-append}
use Rattle.sz_workers.specs.Outcomes.{ShardsEnd, emitted, faulted, lost, after_front, then_shards, outcome_from, then_outcome, faults_in, of_records, FollowFrom, all_records}

-- items of two lists, one after the other
pub got_first : {A : Type 0} (xs ys : List A) (i : ℕ) (x : A) → slice_get xs i ≡ Some x
    → slice_get (xs ++ ys) i ≡ Some x
got_first [] ys i x there = absurd (cc)
got_first (y ∷ xs) ys zero x there = there
got_first (y ∷ xs) ys (suc i) x there = got_first xs ys i x there

pub got_later : {A : Type 0} (xs ys : List A) (i n : ℕ) → i ≡ length xs + n → slice_get (xs ++ ys) i ≡ slice_get ys n
got_later [] ys i n is = let same : i ≡ n = omega (arith, is) in ap (slice_get ys) same
got_later (x ∷ xs) ys zero n is = absurd (omega (arith, is))
got_later (x ∷ xs) ys (suc i) n is = got_later xs ys i n (omega (arith, is))

pub none_beyond : {A : Type 0} (xs : List A) (i : ℕ) → slice_get xs i ≡ None → length xs ≤ i
none_beyond [] i none = omega arith
none_beyond (x ∷ xs) zero none = absurd (cc)
none_beyond (x ∷ xs) (suc i) none = let rest = none_beyond xs i none in omega (arith, rest)

pub beyond_none : {A : Type 0} (xs : List A) (i : ℕ) → length xs ≤ i → slice_get xs i ≡ None
beyond_none [] i le = refl
beyond_none (x ∷ xs) zero le = absurd (omega (arith, le))
beyond_none (x ∷ xs) (suc i) le = beyond_none xs i (omega (arith, le))

-- what comes of further shards after emits and records that were passed over
pub after_nothing : (e : ShardsEnd) → e ≡ after_front [] 0 e
after_nothing (emitted es n) = let same : n ≡ 0 + n = omega arith in ap (emitted es) same
after_nothing (faulted n f) = refl
after_nothing (lost s) = refl

pub later_both : (es fs : List EmitDatum) (n m : ℕ) (e : ShardsEnd)
    → after_front es n (after_front fs m e) ≡ after_front (es ++ fs) (n + m) e
later_both es fs n m (emitted gs k) =
    let sum : n + (m + k) ≡ (n + m) + k = omega arith in
    ap (λ l. emitted l (n + (m + k))) (sym (append_assoc es fs gs)) ∙ ap (emitted ((es ++ fs) ++ gs)) sum
later_both es fs n m (faulted k f) = refl
later_both es fs n m (lost s) = refl

later_then : (es : List EmitDatum) (k : ℕ) (a : ShardsEnd) (f g : ℕ → ShardsEnd) → ((n : ℕ) → f n ≡ g (k + n))
    → after_front es k (then_outcome a f) ≡ then_outcome (after_front es k a) g
later_then es k (emitted fs n) f g same = later_both es fs k n (f n) ∙ ap (after_front (es ++ fs) (k + n)) (same n)
later_then es k (faulted n h) f g same = refl
later_then es k (lost s) f g same = refl

-- a list at one of its places
pub split_at : {A : Type 0} (xs : List A) (i : ℕ) (x : A) → slice_get xs i ≡ Some x
    → xs ≡ take i xs ++ x ∷ drop (suc i) xs
split_at [] i x there = absurd (cc)
split_at (y ∷ xs) zero x there = ap (λ z. z ∷ xs) (cc)
split_at (y ∷ xs) (suc i) x there = ap (λ zs. y ∷ zs) (split_at xs i x there)

module _ (job : Job) where
  -- how many records of a shard fault
  abbrev pub fault_count : ShardData → ℕ
  fault_count s = length (shard_means job s).faults

  -- rounds follow each other
  pub outcome-append : (passed : ℕ) (xs ys : List ShardData)
      → outcome_from job passed (xs ++ ys)
      ≡ then_outcome (outcome_from job passed xs) (λ n. outcome_from job (passed + n) ys)
  outcome-append passed [] ys =
      let same : passed ≡ passed + 0 = omega arith in
      after_nothing (outcome_from job passed ys) ∙ ap (λ p. after_front [] 0 (outcome_from job p ys)) same
  outcome-append passed (x ∷ xs) ys =
      by (is_lost job x) (slice_get (shard_means job x).faults (job.skip - passed))
      (outcome-append (passed + length (shard_means job x).faults) xs ys)
    where
      shifted : (n : ℕ)
          → outcome_from job ((passed + fault_count x) + n) ys ≡ outcome_from job (passed + (fault_count x + n)) ys
      shifted n = let same : (passed + fault_count x) + n ≡ passed + (fault_count x + n) = omega arith in
          ap (λ p. outcome_from job p ys) same

      by : (b : Bool) (o : Option Faulting)
          → outcome_from job (passed + fault_count x) (xs ++ ys)
          ≡ then_outcome (outcome_from job (passed + fault_count x) xs)
          (λ n. outcome_from job ((passed + fault_count x) + n) ys) → (if b then lost x.number
          else then_shards (shard_means job x) o (outcome_from job (passed + fault_count x) (xs ++ ys)))
          ≡ then_outcome (if b then lost x.number
          else then_shards (shard_means job x) o (outcome_from job (passed + fault_count x) xs))
          (λ n. outcome_from job (passed + n) ys)
      by true o rest = refl
      by false (Some one) rest = refl
      by false None rest =
          ap (after_front (shard_means job x).emits (fault_count x)) rest
          ∙ later_then (shard_means job x).emits (fault_count x) (outcome_from job (passed + fault_count x) xs)
          (λ n. outcome_from job ((passed + fault_count x) + n) ys) (λ n. outcome_from job (passed + n) ys) shifted

  -- the emits of shards
  abbrev pub emits_in : List ShardData → List EmitDatum
  emits_in [] = []
  emits_in (s ∷ shards) = (shard_means job s).emits ++ emits_in shards

  -- what comes of their records
  abbrev pub all_of : List ShardData → Yield
  all_of shards = record { emits = emits_in shards; faults = faults_in job shards }

  -- none of them is lost
  abbrev pub AllLive : List ShardData → Type 0
  AllLive [] = Unit {0}
  AllLive (s ∷ shards) = (is_lost job s ≡ false) × AllLive shards

  pub follows_means : (first : ℕ) (shards : List ShardData) → FollowFrom first shards
      → means job first (all_records shards) ≡ all_of shards
  follows_means first [] follow = refl
  follows_means first (s ∷ shards) follow =
      means-append job first s.records (all_records shards)
      ∙ ap (λ m. both (means job m s.records) (means job (first + length s.records) (all_records shards)))
      (sym follow.0) ∙ ap (both (shard_means job s)) (follows_means (first + length s.records) shards follow.1)

  after_of : (y q : Yield) (o : Option Faulting)
      → after_front y.emits (length y.faults) (then_shards q o (emitted [] 0)) ≡ then_shards (both y q) o (emitted [] 0)
  after_of y q None =
      later_both y.emits q.emits (length y.faults) (length q.faults) (emitted [] 0)
      ∙ ap (λ k. after_front (y.emits ++ q.emits) k (emitted [] 0)) (sym (length-append y.faults q.faults))
  after_of y q (Some one) = refl

  -- shards that live decide as one
  pub live_decide : (passed : ℕ) (shards : List ShardData) → passed ≤ job.skip → AllLive shards
      → outcome_from job passed shards ≡ of_records job.skip passed (all_of shards)
  live_decide passed [] low live = let none : 0 ≡ 0 + 0 = omega arith in ap (emitted []) none
  live_decide passed (s ∷ shards) low live =
      ap (λ b. if b then lost s.number
      else then_shards (shard_means job s) (slice_get (shard_means job s).faults (job.skip - passed))
      (outcome_from job (passed + fault_count s) shards)) live.0
      ∙ by (slice_get (shard_means job s).faults (job.skip - passed)) refl
      (λ few. live_decide (passed + fault_count s) shards few live.1)
    where
      by : (o : Option Faulting) → slice_get (shard_means job s).faults (job.skip - passed) ≡ o
          → (passed + fault_count s ≤ job.skip → outcome_from job (passed + fault_count s) shards
          ≡ of_records job.skip (passed + fault_count s) (all_of shards))
          → then_shards (shard_means job s) o (outcome_from job (passed + fault_count s) shards)
          ≡ then_shards (all_of (s ∷ shards))
          (slice_get ((shard_means job s).faults ++ faults_in job shards) (job.skip - passed)) (emitted [] 0)
      by (Some one) is rest =
          sym (ap (λ o. then_shards (all_of (s ∷ shards)) o (emitted [] 0))
          (got_first (shard_means job s).faults (faults_in job shards) (job.skip - passed) one is))
      by None is rest =
          let beyond = none_beyond (shard_means job s).faults (job.skip - passed) is in
          let few : passed + fault_count s ≤ job.skip = omega (arith, beyond, low) in
          let place : job.skip - passed ≡ (fault_count s) + (job.skip - (passed + fault_count s)) =
          omega (arith, beyond, low) in
          ap (after_front (shard_means job s).emits (fault_count s)) (rest few)
          ∙ after_of (shard_means job s) (all_of shards)
          (slice_get (faults_in job shards) (job.skip - (passed + fault_count s)))
          ∙ ap (λ o. then_shards (all_of (s ∷ shards)) o (emitted [] 0))
          (sym (got_later (shard_means job s).faults (faults_in job shards) (job.skip - passed)
          (job.skip - (passed + fault_count s)) place))

  -- of shards that live, in which no more records fault than may be passed over, come all emits
  pub live_emitted : (passed : ℕ) (shards : List ShardData) → passed + length (faults_in job shards) ≤ job.skip
      → AllLive shards → outcome_from job passed shards ≡ emitted (emits_in shards) (length (faults_in job shards))
  live_emitted passed shards few live =
      let sum : length (faults_in job shards) + 0 ≡ length (faults_in job shards) = omega arith in
      live_decide passed shards (omega (arith, few)) live
      ∙ ap (λ o. then_shards (all_of shards) o (emitted [] 0))
      (beyond_none (faults_in job shards) (job.skip - passed) (omega (arith, few)))
      ∙ ap (λ es. emitted es (length (faults_in job shards) + 0)) (append-nil (emits_in shards))
      ∙ ap (emitted (emits_in shards)) sum

  -- where all emits come, they are those of all shards
  pub emitted_yields : (passed : ℕ) (shards : List ShardData) (es : List EmitDatum) (n : ℕ)
      → outcome_from job passed shards ≡ emitted es n → (emits_in shards ≡ es) × (length (faults_in job shards) ≡ n)
  emitted_yields passed [] es n is = same [] es 0 n is
    where
      same : (a b : List EmitDatum) (k m : ℕ) → emitted a k ≡ emitted b m → (a ≡ b) × (k ≡ m)
      same a b k m e = (cc, cc)
  emitted_yields passed (s ∷ shards) es n is =
      by (is_lost job s) (slice_get (shard_means job s).faults (job.skip - passed))
      (outcome_from job (passed + fault_count s) shards)
      (λ gs k. emitted_yields (passed + fault_count s) shards gs k) is
    where
      same : (a b : List EmitDatum) (k m : ℕ) → emitted a k ≡ emitted b m → (a ≡ b) × (k ≡ m)
      same a b k m e = (cc, cc)

      by : (b : Bool) (o : Option Faulting) (e : ShardsEnd)
          → ((gs : List EmitDatum) (k : ℕ) → e ≡ emitted gs k
          → (emits_in shards ≡ gs) × (length (faults_in job shards) ≡ k))
          → (if b then lost s.number else then_shards (shard_means job s) o e) ≡ emitted es n
          → ((shard_means job s).emits ++ emits_in shards ≡ es)
          × (length ((shard_means job s).faults ++ faults_in job shards) ≡ n)
      by true o e rest h = absurd (cc)
      by false (Some one) e rest h = absurd (cc)
      by false None (faulted k f) rest h = absurd (cc)
      by false None (lost k) rest h = absurd (cc)
      by false None (emitted gs k) rest h =
          let later = rest gs k refl in
          let all = same ((shard_means job s).emits ++ gs) es (fault_count s + k) n h in (
            ap (λ l. (shard_means job s).emits ++ l) later.0 ∙ all.0,
            (let long = length-append (shard_means job s).faults (faults_in job shards) in
                omega (arith, long, later.1, all.1)),
          )

  -- the shards in front of one live, and no more of their records fault than may be passed over: if it is lost, it
  -- decides
  pub lost_at : (passed : ℕ) (shards : List ShardData) (i : ℕ) (shard : ShardData) → slice_get shards i ≡ Some shard
      → AllLive (take i shards) → passed + length (faults_in job (take i shards)) ≤ job.skip → is_lost job shard ≡ true
      → outcome_from job passed shards ≡ lost shard.number
  lost_at passed shards i shard there live few dead =
      ap (outcome_from job passed) (split_at shards i shard there)
      ∙ outcome-append passed (take i shards) (shard ∷ drop (suc i) shards)
      ∙ ap (λ e. then_outcome e (λ n. outcome_from job (passed + n) (shard ∷ drop (suc i) shards)))
      (live_emitted passed (take i shards) few live) ∙ ap (after_front (emits_in (take i shards))
      (length (faults_in job (take i shards)))) (here (passed + length (faults_in job (take i shards))))
    where
      here : (p : ℕ) → outcome_from job p (shard ∷ drop (suc i) shards) ≡ lost shard.number
      here p =
          ap (λ b. if b then lost shard.number
          else then_shards (shard_means job shard) (slice_get (shard_means job shard).faults (job.skip - p))
          (outcome_from job (p + length (shard_means job shard).faults) (drop (suc i) shards))) dead

  -- shards in front live, and one of their records is one too many
  pub fault_in_front : (passed : ℕ) (front back : List ShardData) (one : Faulting) → passed ≤ job.skip → AllLive front
      → slice_get (faults_in job front) (job.skip - passed) ≡ Some one
      → outcome_from job passed (front ++ back) ≡ faulted one.number one.fault
  fault_in_front passed front back one low live there =
      outcome-append passed front back
      ∙ ap (λ e. then_outcome e (λ n. outcome_from job (passed + n) back))
      (live_decide passed front low live ∙ ap (λ o. then_shards (all_of front) o (emitted [] 0)) there)

-- what the end of an attempt says of its shard
module _ (job : Job) (shard : ShardData) where
  gives_by : (o : Option ℕ) (y : Yield) (es : List EmitDatum) (fs : List Faulting) → end_by job.skip o y ≡ gives es fs
      → (passes job.skip y ≡ true) × ((y.emits ≡ es) × (y.faults ≡ fs))
  gives_by (Some j) y es fs e = absurd (cc)
  gives_by None y es fs e = by (passes job.skip y) refl e
    where
      same : (a b : List EmitDatum) (c d : List Faulting) → gives a c ≡ gives b d → (a ≡ b) × (c ≡ d)
      same a b c d g = (cc, cc)

      by : (b : Bool) → passes job.skip y ≡ b
          → (if b then gives y.emits y.faults else fails (take (suc job.skip) y.faults)) ≡ gives es fs
          → (passes job.skip y ≡ true) × ((y.emits ≡ es) × (y.faults ≡ fs))
      by true is h = (is, same y.emits es y.faults fs h)
      by false is h = absurd (cc)

  fails_by : (o : Option ℕ) (y : Yield) (fs : List Faulting) → end_by job.skip o y ≡ fails fs
      → (passes job.skip y ≡ false) × (take (suc job.skip) y.faults ≡ fs)
  fails_by (Some j) y fs e = absurd (cc)
  fails_by None y fs e = by (passes job.skip y) refl e
    where
      same : (a b : List Faulting) → fails a ≡ fails b → a ≡ b
      same a b g = cc

      by : (b : Bool) → passes job.skip y ≡ b
          → (if b then gives y.emits y.faults else fails (take (suc job.skip) y.faults)) ≡ fails fs
          → (passes job.skip y ≡ false) × (take (suc job.skip) y.faults ≡ fs)
      by true is h = absurd (cc)
      by false is h = (is, same (take (suc job.skip) y.faults) fs h)

  pub gives_means : (k : ℕ) (es : List EmitDatum) (fs : List Faulting) → end_of job shard k ≡ gives es fs
      → (passes job.skip (shard_means job shard) ≡ true)
      × (((shard_means job shard).emits ≡ es) × ((shard_means job shard).faults ≡ fs))
  gives_means k es fs e = gives_by (least_of (deaths_of job shard k)) (shard_means job shard) es fs e

  pub fails_means : (k : ℕ) (fs : List Faulting) → end_of job shard k ≡ fails fs
      → (passes job.skip (shard_means job shard) ≡ false) × (take (suc job.skip) (shard_means job shard).faults ≡ fs)
  fails_means k fs e = fails_by (least_of (deaths_of job shard k)) (shard_means job shard) fs e

  -- a shard isn't lost of which an attempt lives
  pub not_all : (n k : ℕ) → k < n → dies_at (end_of job shard k) ≡ false → all_die job shard n ≡ false
  not_all zero k less alive = absurd (omega arith)
  not_all (suc n) k less alive = by (order k n) (not_all n k)
    where
      order : (a b : ℕ) → (a ≡ b) ⊎ ((a < b) ⊎ (b < a))
      order a b = grind arith

      last : (x y : Bool) → x ≡ false → (x && y) ≡ false
      last true y e = absurd (cc)
      last false y e = refl

      front : (x y : Bool) → y ≡ false → (x && y) ≡ false
      front true y e = e
      front false y e = refl

      by : (k ≡ n) ⊎ ((k < n) ⊎ (n < k))
          → (k < n → dies_at (end_of job shard k) ≡ false → all_die job shard n ≡ false)
          → all_die job shard (suc n) ≡ false
      by (inl same) rest = last (dies_at (end_of job shard n)) (all_die job shard n)
          (subst (λ m. dies_at (end_of job shard m) ≡ false) same alive)
      by (inr (inl below)) rest = front (dies_at (end_of job shard n)) (all_die job shard n) (rest below alive)
      by (inr (inr above)) rest = absurd (omega (arith, less, above))

  -- one attempt more died
  pub one_more_died : (k j : ℕ) → all_die job shard k ≡ true → end_of job shard k ≡ dies j
      → all_die job shard (k + 1) ≡ true
  one_more_died k j all last =
      let next : k + 1 ≡ suc k = omega arith in
      ap (all_die job shard) next ∙ ap (λ e. dies_at e && all_die job shard k) last ∙ all

  -- of all that died the first did
  pub fewer_died : (a b : ℕ) → a ≤ b → all_die job shard b ≡ true → all_die job shard a ≡ true
  fewer_died a zero le h = let none : a ≡ 0 = omega (arith, le) in subst (λ n. all_die job shard n ≡ true) (sym none) h
  fewer_died a (suc b) le h = by (order a (suc b)) (fewer_died a b)
    where
      order : (x y : ℕ) → (x ≡ y) ⊎ ((x < y) ⊎ (y < x))
      order x y = grind arith

      front : (x y : Bool) → (x && y) ≡ true → y ≡ true
      front true y e = e
      front false y e = absurd (cc)

      by : (a ≡ suc b) ⊎ ((a < suc b) ⊎ (suc b < a))
          → (a ≤ b → all_die job shard b ≡ true → all_die job shard a ≡ true) → all_die job shard a ≡ true
      by (inl same) rest = subst (λ n. all_die job shard n ≡ true) (sym same) h
      by (inr (inl below)) rest =
          rest (omega (arith, below)) (front (dies_at (end_of job shard b)) (all_die job shard b) h)
      by (inr (inr above)) rest = absurd (omega (arith, le, above))
