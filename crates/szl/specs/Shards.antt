-- The shards of an input, and what the attempts of a run have in common.
use Rattle.std.specs.Prelude.{ℕ, zero, suc, ◌+◌, ◌^◌, ◌≤◌, List, [], ◌∷◌, length, nat_le, ◌||◌, if◌then◌else◌}
use Rattle.sz_mean.specs.Marked.{Marked}
use Rattle.sz_world_rules.specs.Slots.{Slot}
use Rattle.sz_records.specs.Shards.{AreShards}
use Rattle.sz_words.specs.declared.settings.RunSettings.{RunSettings}
use Rattle.sz_attempt.specs.declared.job.Job.{Job}
use Rattle.sz_attempt.specs.Shards.{ShardData}
use Rattle.sz_workers.specs.Cuts.{cut_into}

-- the size of the last shard, if it has records
abbrev pub last_size : ℕ → List ℕ
last_size zero = []
last_size (suc count) = suc count ∷ []

-- The sizes of the shards of records, after so many records, with so many bytes, that belong to the first of them. A shard ends with the
-- record by which it has as many records as it may have, or 2^24 bytes
abbrev pub sizes_after : (most count bytes : ℕ) → List (List ℕ) → List ℕ
sizes_after most count bytes [] = last_size count
sizes_after most count bytes (record_bytes ∷ records) =
    if nat_le most (suc count) || nat_le (2 ^ 24) (bytes + length record_bytes)
    then suc count ∷ sizes_after most 0 0 records
    else sizes_after most (suc count) (bytes + length record_bytes) records

-- the sizes of the shards that records are cut into, each with so many records at most
abbrev pub shard_sizes : ℕ → List (List ℕ) → List ℕ
shard_sizes most records = sizes_after most 0 0 records

-- the shards of an input's records: their numbers are counted from 0, and those of records from 1
abbrev pub shards_in : ℕ → List (List ℕ) → List ShardData
shards_in most records = cut_into 0 1 records (shard_sizes most records)

-- records are cut into shards of these sizes
abbrev pub SizesAreShards : Type 0
SizesAreShards = (most : ℕ) (records : List (List ℕ)) → 1 ≤ most → AreShards most records (shard_sizes most records)

-- What an outcome knows of a run: the program with its statics, the budget, how many records are passed over, the number of attempts, and
-- which of them die. Which shards are doubled makes no outcome another, so that none is here
abbrev pub job_of : Marked → List Slot → RunSettings → Job
job_of program slots s =
    record { compiled = program; statics = slots; budget = s.budget; skip = s.skip; attempts = s.attempts; kills = s.kills; twice = [] }
