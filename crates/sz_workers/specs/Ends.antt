-- How an attempt of a shard of a round ends.
use Rattle.std.specs.Prelude.{◌≡◌, ℕ, Some, slice_get}
use Rattle.sz_attempt.specs.declared.job.Job.{Job}
use Rattle.sz_attempt.specs.declared.ends.AttemptEnd.{AttemptEnd}
use Rattle.sz_attempt.specs.Shards.{ShardData}
use Rattle.sz_attempt.specs.Attempts.{end_of}
use Rattle.sz_attempt.specs.Ends.{EndsSo}
use Rattle.sz_workers.specs.declared.round.Round.{Round}
use Rattle.sz_workers.specs.Rounds.{shards_of}

-- attempt k of the shard at this place of the round ends so
abbrev pub IsEndOf : Job → Round → ℕ → ℕ → AttemptEnd → Type 0
IsEndOf job round place k end =
    (shard : ShardData) × (slice_get (shards_of round) place ≡ Some shard)
    × EndsSo job.compiled (end_of job shard k) end
