-- What calls of a job leave of its journal, however they are stopped.
use Rattle.std.specs.Prelude.{◌≡◌, ◌⊎◌, ℕ, ◌+◌, ◌≤◌, ⊤, List, [], ◌∷◌, ◌++◌, Option}
use Rattle.sz_types.specs.Tables.{Declaration}
use Rattle.sz_attempt.specs.declared.job.Job.{Job}
use Rattle.sz_flat.specs.Spelling.{IsShort}
use Rattle.sz_disk.specs.Crashes.{Images}
use Rattle.sz_disk.specs.Crashing.{Rests, LeavesOnly}
use Rattle.sz_disk.specs.Entries.{IsEmpty}
use Rattle.sz_journal.specs.declared.job.JobBytes.{JobBytes}
use Rattle.sz_journal.specs.declared.progress.Progress.{Progress}
use Rattle.sz_journal.specs.declared.round.RoundEntry.{RoundEntry}
use Rattle.sz_journal.specs.Rounds.{progress_of, last_progress}
use Rattle.sz_journal.specs.Journals.{Spells}
use Rattle.sz_resume.specs.Standing.{Source, StandsFor, Stands, IsFound}

-- the rounds are the first of these others
pub record AreFirst (rounds all : List RoundEntry) : Type 0 where
  pub more : List RoundEntry
  pub is : all ≡ rounds ++ more

-- what may be left of a journal, which was this and had these rounds, while the job adds others: one that stands for the job with the rounds that were
-- there and the first of the others; or an empty one, if it was empty
abbrev pub IsLeft : JobBytes → Job → Source → List ℕ → (before added : List RoundEntry) → List ℕ → Type 0
IsLeft name job source held before added image =
    (IsEmpty held × IsEmpty image)
    ⊎ ((some : List RoundEntry) × AreFirst some added × Stands name job source image (before ++ some))

-- each of these rounds has at most 4,096 shards: its next shard is no further than that from where the job had come before it
abbrev pub AreSmall : Progress → List RoundEntry → Type 0
AreSmall before [] = ⊤
AreSmall before (round ∷ rounds) = (round.next_shard ≤ before.shards + 4096) × AreSmall (progress_of round) rounds

-- A stop. A call of the job found a journal with rounds, and added others: whatever a crash at any moment of the call might have left stands
-- for the job with the rounds that were there and the first of the others; or is empty, if the journal was
pub record LeavesRounds {D : Type 0} (time : D → ℕ) (left_since : D → ℕ → Images) (old new : D)
    (name : JobBytes) (job : Job) (source : Source) (held : List ℕ) (before added : List RoundEntry) : Type 0 where
  pub found : IsFound name job source held before
  pub small : AreSmall (last_progress before) added
  pub leaves : LeavesOnly time left_since old new (IsLeft name job source held before added)

-- the image spells the job with these rounds and others after them, whatever they stand for
abbrev pub SpellsMore : JobBytes → List Declaration → List RoundEntry → List ℕ → Type 0
SpellsMore name decls rounds image = (more : List RoundEntry) × Spells name decls image (rounds ++ more)

-- The end. A crash leaves what a read gives, and that stands for the job with rounds that together hold all shards: those that were there and those that
-- the call added
pub record HoldsAll (bytes : Option (List ℕ)) (may_leave : Images) (name : JobBytes) (job : Job) (source : Source) (rounds : List RoundEntry)
    : Type 0 where
  pub held : List ℕ
  pub rests : Rests bytes may_leave held
  pub stands : StandsFor name job source held rounds []

-- ---- any number of stops

-- each of these journals may be left by a call that found the one before it
abbrev pub EachIsLeft : JobBytes → Job → Source → List ℕ → List (List ℕ) → Type 0
EachIsLeft name job source held [] = ⊤
EachIsLeft name job source held (image ∷ images) =
    ((before : List RoundEntry) × (added : List RoundEntry) × IsFound name job source held before × IsLeft name job source held before added image)
    × EachIsLeft name job source image images

-- the last of journals, the first of which is this
abbrev pub last_of : List ℕ → List (List ℕ) → List ℕ
last_of held [] = held
last_of held (image ∷ images) = last_of image images

-- However often a job is stopped, what is left is again a journal that a call of it may find: so by what a call answers over such a journal, the
-- one that isn't stopped answers what one call over an empty journal does. Where the job's number of records to pass over fits its 4 bytes, as it does
-- for each command line, the journal has the rounds that it had at first, and others after them
abbrev pub StopsLeaveTheJob : Type 0
StopsLeaveTheJob =
    (name : JobBytes) (job : Job) (source : Source) (held : List ℕ) (before : List RoundEntry) (images : List (List ℕ))
    → IsFound name job source held before → EachIsLeft name job source held images
    → (rounds : List RoundEntry) × IsFound name job source (last_of held images) rounds × (IsShort name.skip → AreFirst before rounds)
