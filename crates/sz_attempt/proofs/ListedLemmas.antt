-- What the kill list says of an attempt, and that the words name no attempt twice.
use Rattle.std.proofs.Common.{◌≡◌, ℕ, zero, suc, ◌<◌, ◌≤◌, ◌⊎◌, inl, inr, List, [], ◌∷◌, ◌++◌, length, take, map, min, Bool, true, false, cond}
use Rattle.std.proofs.Common.{Option, Some, None, refl, sym, ap, ◌∙◌, subst, arith, append-nil}
use Rattle.std.specs.Prelude.{filter, nat_eq, nat_le, nat_lt, not, ◌&&◌, ◌||◌, if◌then◌else◌, ◌↔◌}
use Rattle.std.specs.List.{Contains}
use Rattle.std.specs.Option.{option_and_then}
use Rattle.std.proofs.lemmas.Bool.Decides.{nat_tests}
use Rattle.std.proofs.lemmas.List.{map-append}
use Rattle.std.proofs.lemmas.List.Elements.{Contains-push_cases, filter-append}
use Rattle.sz_words.specs.Texts.{pieces}
use Rattle.sz_words.specs.Lists.{kill_of, is_killed, kills_with, kills_in, most_entries}
use Rattle.sz_words.specs.declared.settings.Kill.{Kill}
use Rattle.sz_attempt.specs.declared.job.Job.{Job}
use Rattle.sz_attempt.specs.Shards.{ShardData}
use Rattle.sz_attempt.specs.Yields.{Yield}
use Rattle.sz_attempt.specs.Attempts.{End, gives, fails, dies, kills_of, lesser, least_of, passes, living_end, end_by, shard_means, front_means}
use Rattle.sz_attempt.specs.Attempts.{has_effect, deaths_of, end_of, DiedAfter, HasDied, IsLost, dies_at, all_die, is_lost}
use Rattle.sz_attempt.specs.ShardRuns.{least_with}
use Rattle.sz_attempt.proofs.DeathLemmas.{kept, least_push, effect_closed, end_by_least, few_pass, passed_are_few}

-- a kill of an attempt
abbrev kill : ℕ → ℕ → ℕ → Kill
kill s k j = record { shard = s; number = k; after = j }

there : {A : Type 0} (x y : A) (xs : List A) → Contains xs x → Contains (y ∷ xs) x
there x y xs h = (suc h.0, omega (arith, h.1), h.2)

-- whether a kill is of attempt k of shard s
abbrev is_of : ℕ → ℕ → Kill → Bool
is_of s k one = nat_eq one.shard s && nat_eq one.number k

of_same : (s k : ℕ) (one : Kill) → is_of s k one ≡ true → one ≡ kill s k one.after
of_same s k one h = by (nat_eq one.shard s) (nat_eq one.number k) refl refl h
  where
    equal : (a b : ℕ) → nat_eq a b ≡ true → a ≡ b
    equal a b e = grind (arith, nat_tests)

    by : (a b : Bool) → nat_eq one.shard s ≡ a → nat_eq one.number k ≡ b → (a && b) ≡ true → one ≡ kill s k one.after
    by true true e f g =
        ap (λ n. record { shard = n; number = one.number; after = one.after }) (equal one.shard s e)
        ∙ ap (λ n. record { shard = s; number = n; after = one.after }) (equal one.number k f)
    by true false e f g = absurd (cc)
    by false b e f g = absurd (cc)

same_of : (s k j : ℕ) → is_of s k (kill s k j) ≡ true
same_of s k j = ap (λ b. b && nat_eq k k) (equal s) ∙ equal k
  where
    equal : (a : ℕ) → nat_eq a a ≡ true
    equal a = grind (arith, nat_tests)

-- one kill more in front
kills_step : (s k : ℕ) (one : Kill) (ks : List Kill)
    → least_of (kills_of s k (one ∷ ks))
    ≡ (if is_of s k one then Some (lesser one.after (least_of (kills_of s k ks))) else least_of (kills_of s k ks))
kills_step s k one ks = by (is_of s k one)
  where
    by : (b : Bool)
        → least_of (map (λ (x : Kill). x.after) (cond b (one ∷ filter (is_of s k) ks) (filter (is_of s k) ks)))
        ≡ (if b then Some (lesser one.after (least_of (kills_of s k ks))) else least_of (kills_of s k ks))
    by true = refl
    by false = refl

-- one kill more after
pub kills_more : (s k : ℕ) (ks : List Kill) (one : Kill)
    → least_of (kills_of s k (ks ++ one ∷ [])) ≡ least_with s k one (least_of (kills_of s k ks))
kills_more s k ks one =
    ap least_of (ap (map (λ (x : Kill). x.after)) (filter-append (is_of s k) ks (one ∷ []))
    ∙ map-append (λ (x : Kill). x.after) (filter (is_of s k) ks) (filter (is_of s k) (one ∷ [])))
    ∙ by (is_of s k one)
  where
    by : (b : Bool) → least_of (kills_of s k ks ++ map (λ (x : Kill). x.after) (cond b (one ∷ []) []))
        ≡ (if b then Some (lesser one.after (least_of (kills_of s k ks))) else least_of (kills_of s k ks))
    by true = least_push (kills_of s k ks) one.after
    by false = ap least_of (append-nil (kills_of s k ks))

some_same : (a b : ℕ) → Some a ≡ Some b → a ≡ b
some_same a b e = cc

-- the least of an attempt's kills is one of the list
pub least_listed : (s k : ℕ) (ks : List Kill) (j : ℕ) → least_of (kills_of s k ks) ≡ Some j → Contains ks (kill s k j)
least_listed s k [] j is = absurd (cc)
least_listed s k (one ∷ ks) j is =
    by (is_of s k one) refl (least_of (kills_of s k ks)) (least_listed s k ks j) (sym (kills_step s k one ks) ∙ is)
  where
    this : is_of s k one ≡ true → one.after ≡ j → Contains (one ∷ ks) (kill s k j)
    this e same = (0, omega arith, of_same s k one e ∙ ap (kill s k) same)

    least : (n m : ℕ) → min n m ≡ j → (n ≡ j) ⊎ (m ≡ j)
    least n m e = grind arith

    either : is_of s k one ≡ true → (m : ℕ) → (Some m ≡ Some j → Contains ks (kill s k j)) → (one.after ≡ j) ⊎ (m ≡ j)
        → Contains (one ∷ ks) (kill s k j)
    either e m rest (inl same) = this e same
    either e m rest (inr same) = there (kill s k j) one ks (rest (ap Some same))

    by : (b : Bool) → is_of s k one ≡ b → (o : Option ℕ) → (o ≡ Some j → Contains ks (kill s k j))
        → (if b then Some (lesser one.after o) else o) ≡ Some j → Contains (one ∷ ks) (kill s k j)
    by false e o rest h = there (kill s k j) one ks (rest h)
    by true e None rest h = this e (some_same one.after j h)
    by true e (Some m) rest h = either e m rest (least one.after m (some_same (min one.after m) j h))

-- what is there is at most a number
pub record AtMost (o : Option ℕ) (i : ℕ) : Type 0 where
  pub least : ℕ
  pub is : o ≡ Some least
  pub below : least ≤ i

-- the least of an attempt's kills is at most each of them
pub listed_least : (s k : ℕ) (ks : List Kill) (i : ℕ) → Contains ks (kill s k i) → AtMost (least_of (kills_of s k ks)) i
listed_least s k [] i (n, less, at) = absurd (omega arith)
listed_least s k (one ∷ ks) i (zero, less, at) =
    let same : is_of s k one ≡ true = ap (is_of s k) at ∙ same_of s k i in
    let first = ap (λ (x : Kill). x.after) at in
    by (least_of (kills_of s k ks)) first (kills_step s k one ks
    ∙ ap (λ b. if b then Some (lesser one.after (least_of (kills_of s k ks))) else least_of (kills_of s k ks)) same)
  where
    by : (o : Option ℕ) → one.after ≡ i → least_of (kills_of s k (one ∷ ks)) ≡ Some (lesser one.after o)
        → AtMost (least_of (kills_of s k (one ∷ ks))) i
    by None e is = record { least = one.after; is = is; below = omega (arith, e) }
    by (Some m) e is = record { least = min one.after m; is = is; below = omega (arith, e) }
listed_least s k (one ∷ ks) i (suc n, less, at) =
    by (is_of s k one) (listed_least s k ks i (n, omega (arith, less), at)) (kills_step s k one ks)
  where
    by : (b : Bool) → AtMost (least_of (kills_of s k ks)) i
        → least_of (kills_of s k (one ∷ ks))
        ≡ (if b then Some (lesser one.after (least_of (kills_of s k ks))) else least_of (kills_of s k ks))
        → AtMost (least_of (kills_of s k (one ∷ ks))) i
    by true h is = record {
      least = min one.after h.least;
      is = is ∙ ap (λ o. Some (lesser one.after o)) h.is;
      below = omega (arith, h.below);
    }
    by false h is = record { least = h.least; is = is ∙ h.is; below = h.below }

-- what the end of an attempt says of the kill list
module _ (job : Job) (shard : ShardData) (k : ℕ) where
  not_dying : (y : Yield) (j : ℕ) → ¬ (living_end job.skip y ≡ dies j)
  not_dying y j e = by (passes job.skip y) e
    where
      by : (b : Bool) → (if b then gives y.emits y.faults else fails (take (suc job.skip) y.faults)) ≡ dies j → ⊥
      by true h = absurd (cc)
      by false h = absurd (cc)

  by_effect : (b : Bool) (after : ℕ) (y : Yield) (j : ℕ) → end_by job.skip (if b then Some after else None) y ≡ dies j
      → (b ≡ true) × (after ≡ j)
  by_effect true after y j e = (refl, same_dies after j e)
    where
      same_dies : (a b : ℕ) → dies a ≡ dies b → a ≡ b
      same_dies a b f = cc
  by_effect false after y j e = absurd (not_dying y j e)

  parts_of : (after : ℕ) → has_effect job shard after ≡ true
      → (after ≤ length shard.records) × (length (front_means job shard after).faults ≤ job.skip)
  parts_of after h =
      by (nat_le after (length shard.records)) (passes job.skip (front_means job shard after)) refl refl h
    where
      at_most : (a b : ℕ) → nat_le a b ≡ true → a ≤ b
      at_most a b e = grind (arith, nat_tests)

      by : (x y : Bool) → nat_le after (length shard.records) ≡ x → passes job.skip (front_means job shard after) ≡ y
          → (x && y) ≡ true
          → (after ≤ length shard.records) × (length (front_means job shard after).faults ≤ job.skip)
      by true true e f g =
          (at_most after (length shard.records) e, passed_are_few job.skip (front_means job shard after) f)
      by true false e f g = absurd (cc)
      by false y e f g = absurd (cc)

  effect_of : (after : ℕ) → after ≤ length shard.records → length (front_means job shard after).faults ≤ job.skip
      → has_effect job shard after ≡ true
  effect_of after le few =
      ap (λ b. b && passes job.skip (front_means job shard after)) (tested after (length shard.records) le)
      ∙ few_pass job.skip (front_means job shard after) few
    where
      tested : (a b : ℕ) → a ≤ b → nat_le a b ≡ true
      tested a b l = grind (arith, nat_tests)

  -- an attempt that ends by a death died so
  pub died_after : (j : ℕ) → end_of job shard k ≡ dies j → DiedAfter job shard k j
  died_after j is = by (least_of (kills_of shard.number k job.kills)) refl (sym (end_by_least job shard k) ∙ is)
    where
      dead : (after : ℕ) → least_of (kills_of shard.number k job.kills) ≡ Some after
          → (has_effect job shard after ≡ true) × (after ≡ j) → DiedAfter job shard k j
      dead after at h =
          let parts = parts_of after h.0 in
          subst (DiedAfter job shard k) h.1 (record {
            listed = least_listed shard.number k job.kills after at;
            within = parts.0;
            few = parts.1;
          })

      by : (o : Option ℕ) → least_of (kills_of shard.number k job.kills) ≡ o
          → end_by job.skip (kept (has_effect job shard) o) (shard_means job shard) ≡ dies j → DiedAfter job shard k j
      by None at e = absurd (not_dying (shard_means job shard) j e)
      by (Some after) at e = dead after at (by_effect (has_effect job shard after) after (shard_means job shard) j e)

  -- an attempt that died ends by a death, at the latest after so many records
  pub dies_by : (i : ℕ) → DiedAfter job shard k i → (j : ℕ) × (end_of job shard k ≡ dies j) × (j ≤ i)
  dies_by i died =
      let h = listed_least shard.number k job.kills i died.listed in
      let first = effect_closed job shard i h.least h.below (effect_of i died.within died.few) in (
        h.least,
        end_by_least job shard k
            ∙ ap (λ o. end_by job.skip (kept (has_effect job shard) o) (shard_means job shard)) h.is
            ∙ ap (λ b. end_by job.skip (if b then Some h.least else None) (shard_means job shard)) first,
        h.below,
      )

  -- an attempt that didn't die gives what the records mean
  pub lives_else : ¬ HasDied job shard k → end_of job shard k ≡ living_end job.skip (shard_means job shard)
  lives_else alive = by (least_of (deaths_of job shard k)) refl
    where
      by : (o : Option ℕ) → least_of (deaths_of job shard k) ≡ o
          → end_by job.skip o (shard_means job shard) ≡ living_end job.skip (shard_means job shard)
      by None is = refl
      by (Some j) is = absurd (alive (j, died_after j (ap (λ o. end_by job.skip o (shard_means job shard)) is)))

  dead_end : (e : End) → end_of job shard k ≡ e → dies_at e ≡ true → HasDied job shard k
  dead_end (dies j) is h = (j, died_after j is)
  dead_end (gives es fs) is h = absurd (cc)
  dead_end (fails fs) is h = absurd (cc)

  pub has_died : dies_at (end_of job shard k) ≡ true → HasDied job shard k
  has_died h = dead_end (end_of job shard k) refl h

  pub dies_where_died : HasDied job shard k → dies_at (end_of job shard k) ≡ true
  dies_where_died died = let by = dies_by died.0 died.1 in ap dies_at by.1

-- all attempts below a number died
module _ (job : Job) (shard : ShardData) where
  pub all_died : (n : ℕ) → all_die job shard n ≡ true → (k : ℕ) → k < n → HasDied job shard k
  all_died zero h k less = absurd (omega arith)
  all_died (suc n) h k less =
      by (dies_at (end_of job shard n)) (all_die job shard n) refl refl (all_died n) h (order k n)
    where
      order : (a b : ℕ) → (a ≡ b) ⊎ ((a < b) ⊎ (b < a))
      order a b = grind arith

      by : (x y : Bool) → dies_at (end_of job shard n) ≡ x → all_die job shard n ≡ y
          → (all_die job shard n ≡ true → (i : ℕ) → i < n → HasDied job shard i) → (x && y) ≡ true
          → (k ≡ n) ⊎ ((k < n) ⊎ (n < k)) → HasDied job shard k
      by true true e f rest g (inl same) = subst (HasDied job shard) (sym same) (has_died job shard n e)
      by true true e f rest g (inr (inl below)) = rest f k below
      by true true e f rest g (inr (inr above)) = absurd (omega (arith, less, above))
      by true false e f rest g o = absurd (cc)
      by false y e f rest g o = absurd (cc)

  pub died_all : (n : ℕ) → ((k : ℕ) → k < n → HasDied job shard k) → all_die job shard n ≡ true
  died_all zero h = refl
  died_all (suc n) h =
      let last = dies_where_died job shard n (h n (omega arith)) in
      let front = died_all n (λ k less. h k (omega (arith, less))) in
      ap (λ b. b && all_die job shard n) last ∙ front

  pub is_lost_where : (is_lost job shard ≡ true) ↔ IsLost job shard
  is_lost_where = (λ h. all_died job.attempts h, λ h. died_all job.attempts h)

-- no attempt has two kills in the list
abbrev pub AreOfDifferentAttempts : List Kill → Type 0
AreOfDifferentAttempts kills = (s k i j : ℕ) → Contains kills (kill s k i) → Contains kills (kill s k j) → i ≡ j

killed_where : (s k j : ℕ) (ks : List Kill) → Contains ks (kill s k j) → is_killed s k ks ≡ true
killed_where s k j [] (n, less, at) = absurd (omega arith)
killed_where s k j (one ∷ ks) (zero, less, at) = ap (λ b. b || is_killed s k ks) (ap (is_of s k) at ∙ same_of s k j)
killed_where s k j (one ∷ ks) (suc n, less, at) =
    by (is_of s k one) (killed_where s k j ks (n, omega (arith, less), at))
  where
    by : (b : Bool) → is_killed s k ks ≡ true → (b || is_killed s k ks) ≡ true
    by true h = refl
    by false h = h

different_more : (ks : List Kill) (one : Kill) → is_killed one.shard one.number ks ≡ false → AreOfDifferentAttempts ks
    → AreOfDifferentAttempts (ks ++ one ∷ [])
different_more ks one free h s k i j first second =
    by (Contains-push_cases ks one (kill s k i) first) (Contains-push_cases ks one (kill s k j) second)
  where
    among : (n : ℕ) → Contains ks (kill s k n) → (m : ℕ) → one ≡ kill s k m → ⊥
    among n inside m is =
        let killed = killed_where s k n ks inside in
        let same = ap (λ (x : Kill). is_killed x.shard x.number ks) is in
        absurd (cc)

    by : Contains ks (kill s k i) ⊎ (one ≡ kill s k i) → Contains ks (kill s k j) ⊎ (one ≡ kill s k j) → i ≡ j
    by (inl a) (inl b) = h s k i j a b
    by (inl a) (inr b) = absurd (among i a j b)
    by (inr a) (inl b) = absurd (among j b i a)
    by (inr a) (inr b) = ap (λ (x : Kill). x.after) (sym a ∙ b)

different_with : (ks : List Kill) (entries : List (List ℕ)) (result : List Kill) → kills_with ks entries ≡ Some result
    → AreOfDifferentAttempts ks → AreOfDifferentAttempts result
different_with ks [] result is h = subst AreOfDifferentAttempts (kills_same ks result is) h
  where
    kills_same : (a b : List Kill) → Some a ≡ Some b → a ≡ b
    kills_same a b e = cc
different_with ks (entry ∷ entries) result is h =
    by (kill_of (pieces 46 entry)) (λ more. different_with more entries result) is
  where
    test : (one : Kill) (a b : Bool) → is_killed one.shard one.number ks ≡ b
        → ((more : List Kill) → kills_with more entries ≡ Some result → AreOfDifferentAttempts more
        → AreOfDifferentAttempts result) → (if a && not b then kills_with (ks ++ one ∷ []) entries else None)
        ≡ Some result → AreOfDifferentAttempts result
    test one true false free rest e = rest (ks ++ one ∷ []) e (different_more ks one free h)
    test one true true free rest e = absurd (cc)
    test one false b free rest e = absurd (cc)

    by : (o : Option Kill) → ((more : List Kill) → kills_with more entries ≡ Some result → AreOfDifferentAttempts more
        → AreOfDifferentAttempts result)
        → option_and_then (λ one. if nat_lt (length ks) most_entries && not (is_killed one.shard one.number ks)
        then kills_with (ks ++ one ∷ []) entries else None) o ≡ Some result → AreOfDifferentAttempts result
    by None rest e = absurd (cc)
    by (Some one) rest e = test one (nat_lt (length ks) most_entries) (is_killed one.shard one.number ks) refl rest e

-- the kills that words name are of different attempts
pub kills_differ : (text : List ℕ) (kills : List Kill) → kills_in text ≡ Some kills → AreOfDifferentAttempts kills
kills_differ text kills is = different_with [] (pieces 44 text) kills is (λ s k i j a b. absurd (omega (arith, a.1)))
