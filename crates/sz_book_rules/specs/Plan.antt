-- A plan as plain data.
use Rattle.std.specs.Prelude.{ℕ, ◌+◌, ◌^◌, ◌<◌, ◌≤◌, ◌==◌, if◌then◌else◌, List, [], ◌∷◌, length, slice_index}

-- how many shards there are, how many attempts each may have, and the shard of each ticket
pub record PlanData : Type 0 where
  pub shards : ℕ
  pub attempts : ℕ
  pub tickets : List ℕ

-- the number of tickets of a plan
abbrev pub count_of : PlanData → ℕ
count_of p = length p.tickets

-- how many of these tickets are of shard s
abbrev pub tickets_of : ℕ → List ℕ → ℕ
tickets_of s [] = 0
tickets_of s (t ∷ ts) = if t == s then tickets_of s ts + 1 else tickets_of s ts

-- every shard may have 1 to 8 attempts, every ticket is of one of the shards, and every shard has one ticket or two
pub record IsPlan (p : PlanData) : Type 0 where
  pub shards : p.shards < 2 ^ 32
  pub attempts : (1 ≤ p.attempts) × (p.attempts ≤ 8)
  pub tickets : count_of p < 2 ^ 32
  pub within : (t : ℕ) → t < count_of p → slice_index p.tickets t < p.shards
  pub each : (s : ℕ) → s < p.shards → (1 ≤ tickets_of s p.tickets) × (tickets_of s p.tickets ≤ 2)
