-- The shards of a round by their places.
use Rattle.std.proofs.Common.{◌≡◌, ℕ, zero, suc, ◌+◌, ◌<◌, List, [], ◌∷◌, length, Some, refl, ap, ◌∙◌, arith}
use Rattle.std.specs.Prelude.{slice_get}
use Rattle.sz_attempt.specs.declared.job.Shard.{Shard}
use Rattle.sz_attempt.specs.Shards.{ShardData, shard_at}
use Rattle.sz_workers.specs.Rounds.{numbered}

pub length-numbered : (n : ℕ) (records : List (List ℕ)) (shards : List Shard)
    → length (numbered n records shards) ≡ length shards
length-numbered n records [] = refl
length-numbered n records (s ∷ shards) = ap suc (length-numbered (suc n) records shards)

-- the shard at a place has the number of the first one and that place together
pub numbered_at : (n : ℕ) (records : List (List ℕ)) (shards : List Shard) (i : ℕ) (shard : Shard)
    → slice_get shards i ≡ Some shard
    → slice_get (numbered n records shards) i ≡ Some (shard_at (n + i) records shard)
numbered_at n records [] i shard there = absurd (cc)
numbered_at n records (s ∷ shards) zero shard there =
    let same : s ≡ shard = some_same s there in
    let number : n ≡ n + 0 = omega arith in
    ap (λ q. Some (shard_at n records q)) same ∙ ap (λ m. Some (shard_at m records shard)) number
  where
    some_same : (a : Shard) → Some a ≡ Some shard → a ≡ shard
    some_same a e = cc
numbered_at n records (s ∷ shards) (suc i) shard there =
    let number : suc n + i ≡ n + suc i = omega arith in
    numbered_at (suc n) records shards i shard there ∙ ap (λ m. Some (shard_at m records shard)) number

-- one item at a place
pub same_there : {A : Type 0} (xs : List A) (i : ℕ) (x y : A) → slice_get xs i ≡ Some x
    → slice_get xs i ≡ Some y → x ≡ y
same_there xs i x y a b = cc

-- the shard at a place within
pub record IsThere (number : ℕ) (shards : List ShardData) (i : ℕ) : Type 0 where
  pub shard : ShardData
  pub there : slice_get shards i ≡ Some shard
  pub has : shard.number ≡ number

pub shard_there : (n : ℕ) (records : List (List ℕ)) (shards : List Shard) (i : ℕ)
    → i < length (numbered n records shards) → IsThere (n + i) (numbered n records shards) i
shard_there n records [] i less = absurd (omega arith)
shard_there n records (s ∷ shards) zero less = record { shard = shard_at n records s; there = refl; has = omega arith }
shard_there n records (s ∷ shards) (suc i) less =
    let rest = shard_there (suc n) records shards i (omega (arith, less)) in
    record { shard = rest.shard; there = rest.there; has = omega (arith, rest.has) }
