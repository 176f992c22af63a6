-- How an attempt ends, by how its records were run.
use Rattle.std.proofs.Common.{◌≡◌, ℕ, suc, ◌-◌, ◌<◌, ◌≤◌, List, length, take, Option, Some, None, refl, sym, ap, ◌∙◌, subst, arith}
use Rattle.std.proofs.lemmas.List.{length-map}
use Rattle.sz_tabs.specs.Data.{EmitDatum}
use Rattle.sz_words.specs.declared.settings.Kill.{Kill}
use Rattle.sz_total.specs.States.{TotalState}
use Rattle.sz_attempt.specs.declared.job.Job.{Job}
use Rattle.sz_attempt.specs.declared.job.Shard.{Shard}
use Rattle.sz_attempt.specs.declared.ends.Skipped.{Skipped}
use Rattle.sz_attempt.specs.Shards.{shard_at, records_of, IsShardIn}
use Rattle.sz_attempt.specs.Yields.{Yield, means}
use Rattle.sz_attempt.specs.Attempts.{gives, fails, dies, kills_of, front_means, end_of}
use Rattle.sz_attempt.specs.Ends.{StandForEmits, seen_skipped, seen_faults}
use Rattle.sz_attempt.specs.ShardRuns.{IsDeath, run_of, RunsRecords}
use Rattle.sz_attempt.proofs.MeansLemmas.{take_whole, take_shorter, take_short}
use Rattle.sz_attempt.proofs.DeathLemmas.{dies_so, fails_so, gives_so}
use Rattle.sz_attempt.proofs.RunLemmas.{length_of_range}

-- an attempt whose death was looked for in the list, and of whose records so many were run
module _ (job : Job) (records : List (List ℕ)) (shard : Shard) (is : IsShardIn records shard) (s k : ℕ)
    (kills : List Kill) (same : kills ≡ job.kills)
    (death : Option ℕ) (looked : IsDeath (kills_of s k kills) (shard.end - shard.start) death) (count : ℕ)
    (counted : count ≡ run_of death (shard.end - shard.start)) (total : TotalState) (faults : List Skipped)
    (ran : RunsRecords job (means job shard.first (take count (records_of records shard))) total faults) where
  long : length (records_of records shard) ≡ shard.end - shard.start
  long = length_of_range records shard.start shard.end is.within

  death_is : IsDeath (kills_of s k job.kills) (length (records_of records shard)) death
  death_is = subst (λ ks. IsDeath (kills_of s k ks) (length (records_of records shard)) death) same (subst (λ n. IsDeath
      (kills_of s k kills) n death) (sym long) looked)

  run_is : (d : Option ℕ) → death ≡ d → count ≡ run_of d (length (records_of records shard))
  run_is d e = counted ∙ ap (λ q. run_of q (shard.end - shard.start)) e ∙ ap (run_of d) (sym long)

  abbrev ran_means : Yield
  ran_means = means job shard.first (take count (records_of records shard))

  means_is : (d : Option ℕ) → death ≡ d
      → front_means job (shard_at s records shard) (run_of d (length (records_of records shard))) ≡ ran_means
  means_is d e = ap (λ n. means job shard.first (take n (records_of records shard))) (sym (run_is d e))

  as_many : length faults ≡ length (take (suc job.skip) ran_means.faults)
  as_many = sym (length-map faults seen_skipped) ∙ ap length ran.first

  few : length faults ≤ job.skip → length ran_means.faults ≤ job.skip
  few le = let many = as_many in take_short job.skip ran_means.faults (omega (arith, le, many))

  pub bad_ends : job.skip < length faults → end_of job (shard_at s records shard) k ≡ fails (seen_faults faults)
  bad_ends less =
      let same_means = means_is death refl in
      let many : job.skip < length ran_means.faults =
      let shorter = take_shorter (suc job.skip) ran_means.faults in let many = as_many in
      omega (arith, less, many, shorter) in
      fails_so job (shard_at s records shard) k death death_is
      (subst (λ (y : Yield). job.skip < length y.faults) (sym same_means) many)
      ∙ ap (λ (y : Yield). fails (take (suc job.skip) y.faults)) same_means ∙ ap fails (sym ran.first)

  pub death_ends : (after : ℕ) → length faults ≤ job.skip → death ≡ Some after
      → end_of job (shard_at s records shard) k ≡ dies after
  death_ends after le e =
      dies_so job (shard_at s records shard) k after
      (subst (IsDeath (kills_of s k job.kills) (length (records_of records shard))) e death_is)
      (subst (λ (y : Yield). length y.faults ≤ job.skip) (sym (means_is (Some after) e)) (few le))

  pub part_ends : length faults ≤ job.skip → death ≡ None
      → (es : List EmitDatum) × (end_of job (shard_at s records shard) k ≡ gives es (seen_faults faults))
      × StandForEmits job.compiled total es
  part_ends le e =
      let records_is = take_whole (length (records_of records shard)) (records_of records shard) (omega arith) in
      let all : ran_means ≡ means job shard.first (records_of records shard) =
      sym (means_is None e) ∙ ap (means job shard.first) records_is in
      let passed : seen_faults faults ≡ ran_means.faults =
      ran.first ∙ take_whole (suc job.skip) ran_means.faults (let f = few le in omega (arith, f)) in (
        ran_means.emits,
        gives_so job (shard_at s records shard) k
            (subst (IsDeath (kills_of s k job.kills) (length (records_of records shard))) e death_is)
            (subst (λ (y : Yield). length y.faults ≤ job.skip) all (few le))
            ∙ ap (λ (y : Yield). gives y.emits y.faults) (sym all) ∙ ap (gives ran_means.emits) (sym passed),
        ran.stand le,
      )
