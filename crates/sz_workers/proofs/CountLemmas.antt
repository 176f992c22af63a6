-- Rounds have few emits.
use Rattle.std.proofs.Common.{◌≡◌, ℕ, zero, suc, ◌+◌, ◌-◌, ◌*◌, ◌^◌, ◌≤◌, List, [], ◌∷◌, ◌++◌, length, take, All}
use Rattle.std.proofs.Common.{ap, ◌∙◌, arith, length-append}
use native.Mathlib.Nat.{mul-add}
use Rattle.std.proofs.lemmas.List.Elements.{All-head, All-tail}
use Rattle.sz_tabs.specs.Data.{EmitDatum}
use Rattle.sz_attempt.specs.declared.job.Job.{Job}
use Rattle.sz_attempt.specs.declared.job.Shard.{Shard}
use Rattle.sz_attempt.specs.Shards.{ShardData, IsShardIn, shard_at}
use Rattle.sz_attempt.specs.Attempts.{shard_means}
use Rattle.sz_attempt.proofs.ForCallers.{few_emits, length_of_range}
use Rattle.sz_workers.specs.declared.round.Round.{Round}
use Rattle.sz_workers.specs.Outcomes.{emitted, outcome_from, all_records}
use Rattle.sz_workers.proofs.OutcomeLemmas.{emits_in, emitted_yields}
use Rattle.sz_workers.specs.Rounds.{numbered, shards_of, AreNext, IsRound}

together : (b f g e m n t : ℕ) → f ≤ b * m → g ≤ b * n → e ≡ f + g → t ≡ m + n → e ≤ b * t
together b f g e m n t first rest both all =
    let sum : b * t ≡ b * m + b * n = ap (λ k. b * k) all ∙ mul-add b m n in omega (arith, first, rest, both, sum)

-- shards have at most as many emits as their records may take ticks
emits_are_few : (job : Job) (shards : List ShardData)
    → length (emits_in job shards) ≤ job.budget * length (all_records shards)
emits_are_few job [] = omega arith
emits_are_few job (s ∷ shards) =
    let es = (shard_means job s).emits in
    together job.budget (length es) (length (emits_in job shards)) (length (es ++ emits_in job shards))
    (length s.records) (length (all_records shards)) (length (s.records ++ all_records shards))
    (few_emits job s.first s.records) (emits_are_few job shards)
    (length-append es (emits_in job shards)) (length-append s.records (all_records shards))

pub few_of_shards : (job : Job) (passed : ℕ) (shards : List ShardData) (es : List EmitDatum) (n : ℕ)
    → outcome_from job passed shards ≡ emitted es n → length es ≤ job.budget * length (all_records shards)
few_of_shards job passed shards es n is =
    let few = emits_are_few job shards in
    let same = ap length (emitted_yields job passed shards es n is).0 in
    omega (arith, few, same)

-- the first of them have at most as many records as all
pub fewer_records : (shards : List ShardData) (n : ℕ)
    → length (all_records (take n shards)) ≤ length (all_records shards)
fewer_records shards zero = omega arith
fewer_records [] (suc n) = omega arith
fewer_records (s ∷ shards) (suc n) =
    let rest = fewer_records shards n in
    omega
    (arith, rest, length-append s.records (all_records (take n shards)), length-append s.records (all_records shards))

-- shards after each other have few records
records_from : (records : List (List ℕ)) (shards : List Shard) (n place first : ℕ) → All (IsShardIn records) shards
    → AreNext place first shards → (first ≤ 2 ^ 31 + 1)
    → first + length (all_records (numbered n records shards)) ≤ 2 ^ 31 + 1
records_from records [] n place first within next low = omega (arith, low)
records_from records (s ∷ shards) n place first within next low =
    let is = All-head (IsShardIn records) s shards within in
    let long = length_of_range records s.start s.end is.within in
    let same = next.1 in
    let rest = records_from records shards (suc n) s.end (first + (s.end - s.start))
    (All-tail (IsShardIn records) s shards within) next.2 (omega (arith, is.few, same)) in
    omega
    (arith, rest, long, length-append (shard_at n records s).records (all_records (numbered (suc n) records shards)))

pub few_records : (round : Round) → IsRound round → length (all_records (shards_of round)) ≤ 2 ^ 31
few_records round is = by round.shards is.within is.next.0 is.next.1 is.next.2
  where
    by : (shards : List Shard) → All (IsShardIn round.records.items) shards → (place first : ℕ)
        → AreNext place first shards
        → length (all_records (numbered round.first_shard round.records.items shards)) ≤ 2 ^ 31
    by [] within place first next = omega arith
    by (s ∷ shards) within place first next =
        let here = All-head (IsShardIn round.records.items) s shards within in
        let all = records_from round.records.items (s ∷ shards) round.first_shard place first within next
        (omega (arith, here.few, next.1)) in
        omega (arith, all, here.first, next.1)
