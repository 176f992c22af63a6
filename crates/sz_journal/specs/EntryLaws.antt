-- The laws of the format.
use Rattle.std.specs.Prelude.{◌≡◌, ℕ, List}
use Rattle.sz_journal.specs.Jobs.{IsOfJob}
use Rattle.sz_journal.specs.Rounds.{IsOfRound}
use Rattle.sz_journal.specs.declared.job.JobBytes.{JobBytes}
use Rattle.sz_journal.specs.declared.round.RoundEntry.{RoundEntry}

-- no bytes are those of two jobs
abbrev pub IsOneJob : Type 0
IsOneJob = (bytes : List ℕ) (first second : JobBytes) → IsOfJob bytes first → IsOfJob bytes second → first ≡ second

-- no bytes are those of two rounds
abbrev pub IsOneRound : Type 0
IsOneRound = (bytes : List ℕ) (first second : RoundEntry) → IsOfRound bytes first → IsOfRound bytes second
    → first ≡ second
