-- Where an open journal ends, as its callers see it.
use Rattle.std.specs.Prelude.{◌≡◌, ◌⊎◌, ℕ, List, [], ◌∷◌, ◌++◌, Option, IfSome}
use Rattle.sz_types.specs.Tables.{Declaration}
use Rattle.sz_disk.specs.Crashes.{Images}
use Rattle.sz_disk.specs.Entries.{end_of}
use Rattle.sz_disk.specs.Crashing.{Rests}
use Rattle.sz_journal.specs.Rounds.{AreRounds}
use Rattle.sz_journal.specs.declared.job.JobBytes.{JobBytes}
use Rattle.sz_journal.specs.declared.round.RoundEntry.{RoundEntry}
use Rattle.sz_journal.specs.Journals.{entries_of, Spells}
use Rattle.sz_journal.specs.Logged.{logged}
use Rattle.sz_journal.specs.declared.tail.Tail.{Tail}

-- the rounds
abbrev pub rounds_of : Tail → List RoundEntry
rounds_of journal = logged journal.log.items

-- the place of the gate behind the last entry
abbrev pub end_gate : Tail → ℕ
end_gate journal = journal.end

-- the place of the gate behind which the last entry stands
abbrev pub last_gate : Tail → ℕ
last_gate journal = journal.last

-- The journal is one of this job: its end is the gate behind the entries of the job and of its rounds, and the gate
-- before that is the one behind those of all rounds but the last.
pub record IsOf (job : JobBytes) (journal : Tail) : Type 0 where
  pub end : end_gate journal ≡ end_of (entries_of job (rounds_of journal))
  pub last : (before : List RoundEntry) (round : RoundEntry) → rounds_of journal ≡ before ++ round ∷ []
      → last_gate journal ≡ end_of (entries_of job before)

-- The journal is one of a job that the bytes of its disk spell with its rounds, where they are told, and this round
-- may be the next one.
pub record CanAppend (journal : Tail) (bytes : Option (List ℕ)) (round : RoundEntry) : Type 0 where
  pub job : JobBytes
  pub decls : List Declaration
  pub is_of : IsOf job journal
  pub spells : IfSome bytes (λ held. Spells job decls held (rounds_of journal))
  pub are : AreRounds job decls (rounds_of journal ++ round ∷ [])

-- a crash leaves what a read gives, and this spells the job and these rounds
pub record KeepsRounds (bytes : Option (List ℕ)) (may_leave : Images) (job : JobBytes) (decls : List Declaration)
    (rounds : List RoundEntry)
    : Type 0 where
  pub held : List ℕ
  pub rests : Rests bytes may_leave held
  pub spells : Spells job decls held rounds

-- the image spells the job with these rounds, or with one more
abbrev pub SpellsOneOf : JobBytes → List Declaration → List RoundEntry → RoundEntry → List ℕ → Type 0
SpellsOneOf job decls rounds round image = Spells job decls image rounds ⊎ Spells job decls image (rounds ++ round ∷ [])
