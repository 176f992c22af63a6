-- The first shard that decides, and the emits of shards, which are those of all their records.
use Rattle.std.proofs.Common.{◌≡◌, ℕ, suc, ◌+◌, ◌-◌, ◌≤◌, List, [], ◌∷◌, ◌++◌, length, take, Bool, true, false, Option, Some, None, inl, inr, refl, sym, ap}
use Rattle.std.proofs.Common.{◌∙◌, arith, length-append}
use Rattle.std.specs.Prelude.{if◌then◌else◌, filter, slice_get}
use Rattle.sz_tabs.specs.Data.{EmitDatum}
use Rattle.sz_attempt.specs.declared.job.Job.{Job}
use Rattle.sz_attempt.specs.Shards.{ShardData}
use Rattle.sz_attempt.specs.Yields.{Faulting, Yield, means}
use Rattle.sz_attempt.specs.Attempts.{shard_means, is_lost, IsLost, living_end, end_by, end_of, least_of, kills_of, has_effect, dies_at, gives, fails, passes}
use Rattle.sz_attempt.proofs.ForCallers.{is_lost_where}
use Rattle.sz_workers.proofs.OutcomeLemmas.{fault_count, not_all, got_first, got_later, none_beyond, follows_means, live_decide, emitted_yields, AllLive}
use Rattle.sz_workers.specs.Outcomes.{ShardsEnd, emitted, faulted, lost, then_shards, after_front, of_records, outcome_from, faults_in, Decides, IsFirst, IsOutcome}
use Rattle.sz_workers.specs.Outcomes.{FollowFrom, all_records}

module _ (job : Job) where
  is_not_lost : (shard : ShardData) → is_lost job shard ≡ false → ¬ IsLost job shard
  is_not_lost shard alive all = let dead = (is_lost_where job shard).1 all in absurd (cc)

  none_decides : (passed : ℕ) (shard : ShardData) → is_lost job shard ≡ false
      → passed + length (shard_means job shard).faults ≤ job.skip → ¬ Decides job passed shard
  none_decides passed shard alive few (inl all) = is_not_lost shard alive all
  none_decides passed shard alive few (inr many) = absurd (omega (arith, few, many))

  module _ (passed : ℕ) (s : ShardData) (shards : List ShardData) (not : ¬ Decides job passed s)
      (few : passed + length (shard_means job s).faults ≤ job.skip) where
    more_first : (shard : ShardData) → IsFirst job (passed + fault_count job s) shards shard
        → IsFirst job passed (s ∷ shards) shard
    more_first shard h = record {
      front = s ∷ h.front;
      back = h.back;
      there = ap (λ l. s ∷ l) h.there;
      none = (not, h.none);
    }

    after_one : (e : ShardsEnd) → IsOutcome job (passed + fault_count job s) shards e
        → IsOutcome job passed (s ∷ shards) (after_front (shard_means job s).emits (fault_count job s) e)
    unfolding more_first
    after_one (emitted gs n) h = (
      (not, h.0),
      (let long = length-append (shard_means job s).faults (faults_in job shards) in omega (arith, long, h.1)),
    )
    after_one (faulted n f) (shard, first, alive, there) =
        let place : job.skip - passed ≡ fault_count job s + (job.skip - (passed + fault_count job s)) =
        omega (arith, few) in (
          shard,
          more_first shard first,
          alive,
          got_later (shard_means job s).faults (faults_in job (first.front ++ shard ∷ [])) (job.skip - passed)
              (job.skip - (passed + fault_count job s)) place ∙ there,
        )
    after_one (lost n) h = (h.0, more_first h.0 h.1, h.2, h.3)

  pub is_outcome : (passed : ℕ) (shards : List ShardData) → passed ≤ job.skip
      → IsOutcome job passed shards (outcome_from job passed shards)
  is_outcome passed [] low = (tt, refl)
  is_outcome passed (s ∷ shards) low =
      by (is_lost job s) (slice_get (shard_means job s).faults (job.skip - passed)) refl refl
      (λ few. is_outcome (passed + length (shard_means job s).faults) shards few)
    where
      this : IsFirst job passed (s ∷ shards) s
      this = record { front = []; back = shards; there = refl; none = tt }

      by : (b : Bool) (o : Option Faulting) → is_lost job s ≡ b
          → slice_get (shard_means job s).faults (job.skip - passed) ≡ o
          → (passed + fault_count job s ≤ job.skip
          → IsOutcome job (passed + fault_count job s) shards (outcome_from job (passed + fault_count job s) shards))
          → IsOutcome job passed (s ∷ shards)
          (if b then lost s.number
          else then_shards (shard_means job s) o (outcome_from job (passed + fault_count job s) shards))
      by true o dead is rest = (s, this, (is_lost_where job s).0 dead, refl)
      by false (Some one) alive is rest =
          (s, this, is_not_lost s alive, got_first (shard_means job s).faults [] (job.skip - passed) one is)
      by false None alive is rest =
          let beyond = none_beyond (shard_means job s).faults (job.skip - passed) is in
          let few : passed + fault_count job s ≤ job.skip = omega (arith, beyond, low) in
          after_one passed s shards (none_decides passed s alive few) few
          (outcome_from job (passed + fault_count job s) shards) (rest few)

  pub all_emits : (passed first : ℕ) (shards : List ShardData) (es : List EmitDatum) (n : ℕ) → FollowFrom first shards
      → outcome_from job passed shards ≡ emitted es n
      → ((means job first (all_records shards)).emits ≡ es) × (length (means job first (all_records shards)).faults ≡ n)
  all_emits passed first shards es n follow is =
      let all = follows_means job first shards follow in
      let yields = emitted_yields job passed shards es n is in
      (ap (λ (y : Yield). y.emits) all ∙ yields.0, ap (λ (y : Yield). length y.faults) all ∙ yields.1)

-- without kills no attempt dies
module _ (job : Job) (none : job.kills ≡ []) (some : 1 ≤ job.attempts) where
  lives : (shard : ShardData) (k : ℕ) → end_of job shard k ≡ living_end job.skip (shard_means job shard)
  lives shard k = ap (λ ks. end_by job.skip (least_of (filter (has_effect job shard) (kills_of shard.number k ks)))
      (shard_means job shard)) none

  not_lost : (shard : ShardData) → is_lost job shard ≡ false
  not_lost shard = not_all job shard job.attempts 0 (omega (arith, some))
      (ap dies_at (lives shard 0) ∙ living (shard_means job shard))
    where
      living : (y : Yield) → dies_at (living_end job.skip y) ≡ false
      living y = by (passes job.skip y)
        where
          by : (b : Bool) → dies_at (if b then gives y.emits y.faults else fails (take (suc job.skip) y.faults)) ≡ false
          by true = refl
          by false = refl

  all_live : (shards : List ShardData) → AllLive job shards
  all_live [] = tt
  all_live (s ∷ shards) = (not_lost s, all_live shards)

  pub records_decide : (passed first : ℕ) (shards : List ShardData) → passed ≤ job.skip → FollowFrom first shards
      → outcome_from job passed shards ≡ of_records job.skip passed (means job first (all_records shards))
  records_decide passed first shards low follow =
      live_decide job passed shards low (all_live shards)
      ∙ ap (of_records job.skip passed) (sym (follows_means job first shards follow))
