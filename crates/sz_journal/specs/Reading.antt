-- What is found while a journal is read.
use Rattle.std.specs.Prelude.{◌≡◌, ◌≢◌, ◌<◌, ◌+◌, ℕ, List, [], ◌∷◌, ◌++◌, length, drop, Option, Some, Bool, true, false, Result, Ok, Err, ⊤}
use Rattle.std.specs.List.{AllByRecursion}
use Rattle.sz_types.specs.Tables.{Declaration}
use Rattle.sz_disk.specs.Entries.{opened, all_opened, end_of, IsCounted, IsEmpty}
use Rattle.sz_journal.specs.Jobs.{IsJob}
use Rattle.sz_journal.specs.Rounds.{round_bytes, AreRounds}
use Rattle.sz_journal.specs.declared.job.JobBytes.{JobBytes}
use Rattle.sz_journal.specs.declared.round.RoundEntry.{RoundEntry}
use Rattle.sz_journal.specs.Journals.{entries_of, IsNextRound, Stands, Spelled}
use Rattle.sz_journal.specs.Journal.{rounds_of, end_gate, last_gate, IsOf}
use Rattle.sz_journal.specs.Opening.{FitsError}
use Rattle.sz_journal.specs.declared.error.OpenError.{OpenError}
use Rattle.sz_journal.specs.declared.error.OpenError.TheVariants as errors
use Rattle.sz_journal.specs.declared.tail.Tail.{Tail}

-- the bytes begin with the entries of the job and of these rounds
pub record IsReadTo (job : JobBytes) (rounds : List RoundEntry) (held : List ℕ) : Type 0 where
  pub is : held ≡ all_opened (entries_of job rounds) ++ drop (end_of (entries_of job rounds)) held
  pub counted : AllByRecursion IsCounted (entries_of job rounds)

-- what a first entry is that isn't the job's own with a gate behind it: one of another job, or it is damaged
abbrev pub FitsRefused : List ℕ → List ℕ → OpenError → Type 0
FitsRefused own first errors.OtherJob = (first ≢ own) × IsJob first
FitsRefused own first (errors.Damaged place) = (place ≡ 0) × (first ≢ own → IsJob first → ⊥)
FitsRefused own first errors.Failed = ⊥
FitsRefused own first errors.NoMemory = ⊤

-- the entry of the job stands in front, with a gate behind it; or no entry does; or an error is what the bytes are
-- for the job
abbrev pub FitsFirst : JobBytes → List Declaration → List ℕ → Result Bool OpenError → Type 0
FitsFirst job decls held (Ok true) = IsReadTo job [] held
FitsFirst job decls held (Ok false) = IsEmpty held
FitsFirst job decls held (Err error) = FitsError job decls held error

-- the journal has a round more, whose entry this is; or the entry isn't one of a round that may be the next one
pub record HasTaken (job : JobBytes) (decls : List Declaration) (old new : Tail) (entry : List ℕ) : Type 0 where
  pub round : RoundEntry
  pub is : entry ≡ round_bytes round
  pub are : AreRounds job decls (rounds_of old ++ round ∷ [])
  pub rounds : rounds_of new ≡ rounds_of old ++ round ∷ []
  pub last : last_gate new ≡ end_gate old
  pub end : end_gate new ≡ end_gate old + length (opened entry)

abbrev pub FitsTaken : JobBytes → List Declaration → Tail → Tail → List ℕ → Result ⊤ OpenError → Type 0
FitsTaken job decls old new entry (Ok _) = HasTaken job decls old new entry
FitsTaken job decls old new entry (Err errors.OtherJob) = ⊥
FitsTaken job decls old new entry (Err (errors.Damaged place)) =
    (place ≡ end_gate old) × (IsNextRound job decls (rounds_of old) entry → ⊥)
FitsTaken job decls old new entry (Err errors.Failed) = ⊥
FitsTaken job decls old new entry (Err errors.NoMemory) = ⊤

-- the journal has the rounds that were read so far of a disk of so many bytes, and its end is a gate there
pub record IsAt (job : JobBytes) (decls : List Declaration) (journal : Tail) (bytes : Option (List ℕ))
    (count : ℕ) : Type 0 where
  pub is_of : IsOf job journal
  pub are : AreRounds job decls (rounds_of journal)
  pub here : end_gate journal < count
  pub read : (held : List ℕ) → bytes ≡ Some held → IsReadTo job (rounds_of journal) held

-- the journal has all rounds of the job, and the bytes spell them where they are told
pub record HasAll (job : JobBytes) (decls : List Declaration) (journal : Tail)
    (bytes : Option (List ℕ)) : Type 0 where
  pub is_of : IsOf job journal
  pub are : AreRounds job decls (rounds_of journal)
  pub spelled : (held : List ℕ) → bytes ≡ Some held → Stands job decls held (Spelled (rounds_of journal))

-- a further round was read; or there is none, and the journal has all; or an error is what the bytes are for the job
abbrev pub FitsTurn : JobBytes → List Declaration → Option (List ℕ) → ℕ → Tail → Tail
    → Result Bool OpenError → Type 0
FitsTurn job decls bytes count old new (Ok true) = IsAt job decls new bytes count × (end_gate old < end_gate new)
FitsTurn job decls bytes count old new (Ok false) = HasAll job decls new bytes
FitsTurn job decls bytes count old new (Err error) = (held : List ℕ) → bytes ≡ Some held
    → FitsError job decls held error

-- these rounds are spelled; or an error is what the bytes are for the job
abbrev pub FitsRead : JobBytes → List Declaration → List ℕ → Result Tail OpenError → Type 0
FitsRead job decls held (Ok journal) = Stands job decls held (Spelled (rounds_of journal))
FitsRead job decls held (Err error) = FitsError job decls held error
