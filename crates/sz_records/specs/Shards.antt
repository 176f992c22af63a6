-- Records cut into shards.
use Rattle.std.specs.Prelude.{◌≡◌, ◌⊎◌, ℕ, ◌-◌, ◌^◌, ◌<◌, ◌≤◌, Bool, true, false, List, [], ◌∷◌, ◌++◌, length, take, drop}
use Rattle.std.specs.List.{sum_by}

-- the bytes of records, without their lengths and newlines
abbrev pub bytes_in : List (List ℕ) → ℕ
bytes_in rs = sum_by length rs

-- these are as many records as a shard may have, or they hold as many bytes
abbrev pub IsFull : ℕ → List (List ℕ) → Type 0
IsFull most rs = (most ≤ length rs) ⊎ (2 ^ 24 ≤ bytes_in rs)

-- The first n of these records are a shard: the shortest front that is full, or all records where no front is. The
-- record that makes it full is its last one
pub record IsShard (most : ℕ) (rs : List (List ℕ)) (n : ℕ) : Type 0 where
  pub some : 0 < n
  pub within : n ≤ length rs
  pub shortest : (m : ℕ) → m < n → ¬ IsFull most (take m rs)
  pub ends : IsFull most (take n rs) ⊎ (n ≡ length rs)

-- the records are cut into shards of these sizes. No records have no shard
abbrev pub AreShards : ℕ → List (List ℕ) → List ℕ → Type 0
AreShards most rs [] = rs ≡ []
AreShards most rs (n ∷ ns) = IsShard most rs n × AreShards most (drop n rs) ns

-- records are cut into shards in one way
abbrev pub ShardsAreUnique : Type 0
ShardsAreUnique = (most : ℕ) (rs : List (List ℕ)) (ns ms : List ℕ) → AreShards most rs ns
    → AreShards most rs ms → ns ≡ ms

-- the records from one place to another are a shard, whatever records are still to come. At the end there are no more
pub record EndsShard (rs : List (List ℕ)) (from most : ℕ) (at_end : Bool) (end : ℕ) : Type 0 where
  pub within : (from < end) × (end ≤ length rs)
  pub shard : (more : List (List ℕ)) → (at_end ≡ true → more ≡ []) → IsShard most (drop from (rs ++ more)) (end - from)

-- no front of these records is full, so that more could belong to their shard
abbrev pub MayGoOn : ℕ → List (List ℕ) → Type 0
MayGoOn most rs = (m : ℕ) → m ≤ length rs → ¬ IsFull most (take m rs)

-- no record is there, or more could still come and belong to the shard
abbrev pub IsOpenAt : List (List ℕ) → ℕ → ℕ → Bool → Type 0
IsOpenAt rs from most at_end = (length rs ≤ from) ⊎ ((at_end ≡ false) × MayGoOn most (drop from rs))
