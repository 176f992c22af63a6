-- Which attempts die, what the others give, and which shards are lost or bad.
use Rattle.std.specs.Prelude.{ℕ, zero, suc, ◌<◌, ◌≤◌, List, [], ◌∷◌, length, take, map, filter, min, Bool, true, false, ◌&&◌, nat_eq, nat_le}
use Rattle.std.specs.Prelude.{Option, Some, None, if◌then◌else◌}
use Rattle.std.specs.List.{Contains}
use Rattle.sz_tabs.specs.Data.{EmitDatum}
use Rattle.sz_words.specs.declared.settings.Kill.{Kill}
use Rattle.sz_attempt.specs.declared.job.Job.{Job}
use Rattle.sz_attempt.specs.Shards.{ShardData}
use Rattle.sz_attempt.specs.Yields.{Faulting, Yield, means}

-- How an attempt ends: it gives emits and the records that were passed over; or too many records fault, of which it
-- gives the first ones;
-- or it dies after so many records
pub data End : Type 0 where
  gives : (emits : List EmitDatum) (passed : List Faulting) → End
  fails : (faults : List Faulting) → End
  dies : (after : ℕ) → End

-- after how many records attempt k of shard s is to die, by each entry of the list for it
abbrev pub kills_of : ℕ → ℕ → List Kill → List ℕ
kills_of s k kills =
    map (λ (kill : Kill). kill.after) (filter (λ (kill : Kill). nat_eq kill.shard s && nat_eq kill.number k) kills)

-- the lesser of a number and one that may be there
abbrev pub lesser : ℕ → Option ℕ → ℕ
lesser n None = n
lesser n (Some m) = min n m

-- the least of these numbers, if there are any
abbrev pub least_of : List ℕ → Option ℕ
least_of [] = None
least_of (n ∷ ns) = Some (lesser n (least_of ns))

-- whether no more of the records fault than may be passed over
abbrev pub passes : ℕ → Yield → Bool
passes skip yield = nat_le (length yield.faults) skip

-- more of the records fault than may be passed over
abbrev pub HasTooMany : ℕ → Yield → Type 0
HasTooMany skip yield = skip < length yield.faults

-- what an attempt gives that doesn't die. Of too many records that fault it gives the first: one more than may be
-- passed over
abbrev pub living_end : ℕ → Yield → End
living_end skip yield =
    if passes skip yield then gives yield.emits yield.faults else fails (take (suc skip) yield.faults)

-- how an attempt ends that dies after so many records, if it dies
abbrev pub end_by : ℕ → Option ℕ → Yield → End
end_by skip (Some after) yield = dies after
end_by skip None yield = living_end skip yield

-- whether an attempt ends by its death
abbrev pub dies_at : End → Bool
dies_at (dies after) = true
dies_at (gives emits passed) = false
dies_at (fails faults) = false

module _ (job : Job) where
  -- what the program means for a shard's records
  abbrev pub shard_means : ShardData → Yield
  shard_means shard = means job shard.first shard.records

  -- what it means for so many of them
  abbrev pub front_means : ShardData → ℕ → Yield
  front_means shard count = means job shard.first (take count shard.records)

  -- whether a death after so many records of the shard has effect: there are as many, and no more of them fault than
  -- may be passed over
  abbrev pub has_effect : ShardData → ℕ → Bool
  has_effect shard after = nat_le after (length shard.records) && passes job.skip (front_means shard after)

  -- after how many records attempt k of the shard dies, by each entry of the kill list that has effect
  abbrev pub deaths_of : ShardData → ℕ → List ℕ
  deaths_of shard k = filter (has_effect shard) (kills_of shard.number k job.kills)

  -- How attempt k of the shard ends. Where more than one entry has effect it dies by the least, which comes first
  abbrev pub end_of : ShardData → ℕ → End
  end_of shard k = end_by job.skip (least_of (deaths_of shard k)) (shard_means shard)

  -- attempt k of the shard died after j records: the kill list says so, there are as many records, and no more of the
  -- first j fault than may be passed over
  pub record DiedAfter (shard : ShardData) (k j : ℕ) : Type 0 where
    pub listed : Contains job.kills (record { shard = shard.number; number = k; after = j })
    pub within : j ≤ length shard.records
    pub few : length (front_means shard j).faults ≤ job.skip

  -- attempt k of the shard died
  abbrev pub HasDied : ShardData → ℕ → Type 0
  HasDied shard k = (j : ℕ) × DiedAfter shard k j

  -- the shard is lost: all its attempts died
  abbrev pub IsLost : ShardData → Type 0
  IsLost shard = (k : ℕ) → k < job.attempts → HasDied shard k

  -- the shard is bad: more of its records fault than may be passed over, and it isn't lost
  abbrev pub IsBad : ShardData → Type 0
  IsBad shard = HasTooMany job.skip (shard_means shard) × ¬ IsLost shard

  -- whether all attempts of the shard below a number die
  abbrev pub all_die : ShardData → ℕ → Bool
  all_die shard zero = true
  all_die shard (suc k) = dies_at (end_of shard k) && all_die shard k

  -- whether the shard is lost
  abbrev pub is_lost : ShardData → Bool
  is_lost shard = all_die shard job.attempts
