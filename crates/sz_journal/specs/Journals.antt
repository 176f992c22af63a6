-- What the bytes of a journal are for a job.
use Rattle.std.specs.Prelude.{◌≡◌, ◌≢◌, ◌⊎◌, ℕ, List, [], ◌∷◌, ◌++◌, map}
use Rattle.std.specs.List.{AllByRecursion}
use Rattle.sz_types.specs.Tables.{Declaration}
use Rattle.sz_disk.specs.Entries.{all_opened, end_of, IsCounted, Holds, IsEmpty}
use Rattle.sz_disk.specs.GateCalls.{Begins, HasEntry}
use Rattle.sz_journal.specs.Jobs.{job_bytes, IsJob}
use Rattle.sz_journal.specs.Rounds.{round_bytes, AreRounds}
use Rattle.sz_journal.specs.declared.job.JobBytes.{JobBytes}
use Rattle.sz_journal.specs.declared.round.RoundEntry.{RoundEntry}

-- the entries of a job and its rounds
abbrev pub entries_of : JobBytes → List RoundEntry → List (List ℕ)
entries_of job rounds = job_bytes job ∷ map round_bytes rounds

-- the journal spells a job, whose program declares these tables, and rounds: it holds their entries, and the rounds
-- may be those of the job
pub record Spells (job : JobBytes) (decls : List Declaration) (bytes : List ℕ) (rounds : List RoundEntry) : Type 0 where
  pub holds : Holds (entries_of job rounds) bytes
  pub are : AreRounds job decls rounds

-- the first entry is whole, behind an open gate, and is that of another job, whatever stands behind it
pub record IsOfOtherJob (job : JobBytes) (bytes : List ℕ) : Type 0 where
  pub entry : List ℕ
  pub behind : List ℕ
  pub begins : Begins entry behind bytes
  pub is_job : IsJob entry
  pub other : entry ≢ job_bytes job

-- an entry that is good stands in front, behind an open gate, and the next gate behind it
pub record BeginsWith (Good : List ℕ → Type 0) (bytes : List ℕ) : Type 0 where
  pub entry : List ℕ
  pub has : HasEntry entry bytes
  pub good : Good entry

-- the entry may be that of the round behind these
pub record IsNextRound (job : JobBytes) (decls : List Declaration) (rounds : List RoundEntry)
    (entry : List ℕ) : Type 0 where
  pub round : RoundEntry
  pub are : AreRounds job decls (rounds ++ round ∷ [])
  pub is : entry ≡ round_bytes round

-- The journal isn't empty, and at its first gate there is neither the job's entry, whole and with a gate behind it,
-- nor the whole entry of another job.
pub record IsDamagedFirst (job : JobBytes) (bytes : List ℕ) : Type 0 where
  pub byte : ℕ
  pub behind : List ℕ
  pub is : bytes ≡ 1 ∷ byte ∷ behind
  pub none : BeginsWith (λ entry. entry ≡ job_bytes job) bytes → ⊥
  pub no_other : IsOfOtherJob job bytes → ⊥

-- The gate at this place, which is that behind the job and these rounds, is open, and there is no entry of a further
-- round, whole and with a gate behind it.
pub record IsDamagedBehind (job : JobBytes) (decls : List Declaration) (bytes : List ℕ) (place : ℕ) : Type 0 where
  pub rounds : List RoundEntry
  pub behind : List ℕ
  pub is : bytes ≡ all_opened (entries_of job rounds) ++ 1 ∷ behind
  pub counted : AllByRecursion IsCounted (entries_of job rounds)
  pub are : AreRounds job decls rounds
  pub place_is : place ≡ end_of (entries_of job rounds)
  pub none : BeginsWith (IsNextRound job decls rounds) (1 ∷ behind) → ⊥

-- the journal is damaged, by the entry behind the gate at this place
abbrev pub IsDamaged : JobBytes → List Declaration → List ℕ → ℕ → Type 0
IsDamaged job decls bytes place = ((place ≡ 0) × IsDamagedFirst job bytes) ⊎ IsDamagedBehind job decls bytes place

-- what the bytes of a journal are for a job
pub data Standing : Type 0 where
  Empty : Standing
  OtherJob : Standing
  DamagedAt : ℕ → Standing
  Spelled : List RoundEntry → Standing

-- the journal is that for the job, whose program declares these tables
abbrev pub Stands : JobBytes → List Declaration → List ℕ → Standing → Type 0
Stands job decls bytes Empty = IsEmpty bytes
Stands job decls bytes OtherJob = IsOfOtherJob job bytes
Stands job decls bytes (DamagedAt place) = IsDamaged job decls bytes place
Stands job decls bytes (Spelled rounds) = Spells job decls bytes rounds
