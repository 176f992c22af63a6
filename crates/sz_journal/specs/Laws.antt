-- The laws of journals.
use Rattle.std.specs.Prelude.{◌≡◌, ℕ, List}
use Rattle.sz_types.specs.Tables.{Declaration}
use Rattle.sz_flat.specs.Spelling.{IsShort}
use Rattle.sz_journal.specs.Jobs.{IsSpelledJob}
use Rattle.sz_journal.specs.declared.job.JobBytes.{JobBytes}
use Rattle.sz_journal.specs.declared.round.RoundEntry.{RoundEntry}
use Rattle.sz_journal.specs.Journals.{Standing, Stands, Spells}

-- a journal is one thing for a job: without an entry, of another job, damaged at one place, or of the job with one
-- list of rounds
abbrev pub IsOneStanding : Type 0
IsOneStanding =
    (job : JobBytes) (decls : List Declaration) (bytes : List ℕ) (first second : Standing) → IsShort job.skip
    → Stands job decls bytes first → Stands job decls bytes second → first ≡ second

-- no journal spells two jobs
abbrev pub IsOneJournal : Type 0
IsOneJournal =
    (bytes : List ℕ) (first second : JobBytes) (decls others : List Declaration) (rounds more : List RoundEntry)
    → IsSpelledJob first → IsSpelledJob second → Spells first decls bytes rounds → Spells second others bytes more
    → (first ≡ second) × (rounds ≡ more)
