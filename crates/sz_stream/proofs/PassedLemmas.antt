-- Records that were passed over are few.
use Rattle.std.proofs.Common.{◌≡◌, ℕ, suc, ◌+◌, ◌-◌, ◌≤◌, List, [], ◌∷◌, ◌++◌, length, Bool, true, false, Option, Some, None, refl, arith, length-append}
use Rattle.std.specs.Prelude.{slice_get, if◌then◌else◌}
use Rattle.sz_tabs.specs.Data.{EmitDatum}
use Rattle.sz_world_rules.specs.World.{Outcome, Done, Faulted}
use Rattle.sz_mean.specs.Programs.{mean}
use Rattle.sz_attempt.specs.declared.job.Job.{Job}
use Rattle.sz_attempt.specs.Shards.{ShardData}
use Rattle.sz_attempt.specs.Yields.{Faulting, yield_of, means}
use Rattle.sz_attempt.specs.Attempts.{shard_means, is_lost}
use Rattle.sz_workers.specs.Outcomes.{ShardsEnd, emitted, faulted, lost, then_shards, outcome_from, faults_in, all_records}
use Rattle.sz_workers.proofs.OutcomeLemmas.{fault_count, none_beyond, emitted_yields}

-- shards that give their emits have no more records that fault than may be passed over
pub few_passed : (job : Job) (passed : ℕ) (shards : List ShardData) (es : List EmitDatum) (n : ℕ) → passed ≤ job.skip
    → outcome_from job passed shards ≡ emitted es n → passed + n ≤ job.skip
few_passed job passed [] es n low is = let none : n ≡ 0 = same es n is in omega (arith, none, low)
  where
    same : (es : List EmitDatum) (n : ℕ) → emitted [] 0 ≡ emitted es n → n ≡ 0
    same es n e = cc
few_passed job passed (s ∷ shards) es n low is =
    by (is_lost job s) (slice_get (shard_means job s).faults (job.skip - passed)) refl
    (outcome_from job (passed + fault_count job s) shards)
    (λ few gs k. few_passed job (passed + fault_count job s) shards gs k few) is
  where
    same : (a b : List EmitDatum) (k m : ℕ) → emitted a k ≡ emitted b m → k ≡ m
    same a b k m e = cc

    by : (b : Bool) (o : Option Faulting) → slice_get (shard_means job s).faults (job.skip - passed) ≡ o
        → (e : ShardsEnd) → (passed + fault_count job s ≤ job.skip → (gs : List EmitDatum) (k : ℕ) → e ≡ emitted gs k
        → passed + fault_count job s + k ≤ job.skip)
        → (if b then lost s.number else then_shards (shard_means job s) o e) ≡ emitted es n → passed + n ≤ job.skip
    by true o found e rest h = absurd cc
    by false (Some one) found e rest h = absurd cc
    by false None found (faulted k f) rest h = absurd cc
    by false None found (lost k) rest h = absurd cc
    by false None found (emitted gs k) rest h =
        let beyond = none_beyond (shard_means job s).faults (job.skip - passed) found in
        let all = same ((shard_means job s).emits ++ gs) es (fault_count job s + k) n h in
        let later = rest (omega (arith, beyond, low)) gs k refl in
        omega (arith, all, later)

module _ (job : Job) where
  -- no more records fault than there are
  faults_are_few : (number : ℕ) (records : List (List ℕ)) → length (means job number records).faults ≤ length records
  faults_are_few number [] = omega arith
  faults_are_few number (r ∷ records) =
      let rest = faults_are_few (suc number) records in
      let here = one (mean job.compiled job.statics job.budget r) in
      omega (
        arith,
        rest,
        here,
        length-append (yield_of number (mean job.compiled job.statics job.budget r)).faults
            (means job (suc number) records).faults,
      )
    where
      one : (o : Outcome (List EmitDatum)) → length (yield_of number o).faults ≤ 1
      one (Done es) = omega arith
      one (Faulted f) = omega arith

  few_faults : (shards : List ShardData) → length (faults_in job shards) ≤ length (all_records shards)
  few_faults [] = omega arith
  few_faults (s ∷ shards) =
      let rest = few_faults shards in
      let here = faults_are_few s.first s.records in
      omega (
        arith,
        rest,
        here,
        length-append (shard_means job s).faults (faults_in job shards),
        length-append s.records (all_records shards),
      )

  -- shards that give their emits have no more records that fault than there are
  pub passed_records : (passed : ℕ) (shards : List ShardData) (es : List EmitDatum) (n : ℕ)
      → outcome_from job passed shards ≡ emitted es n → n ≤ length (all_records shards)
  passed_records passed shards es n is =
      let few = few_faults shards in
      let same = (emitted_yields job passed shards es n is).1 in
      omega (arith, few, same)
