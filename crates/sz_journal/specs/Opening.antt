-- What opening a journal promises.
use Rattle.std.specs.Prelude.{◌≡◌, ◌⊎◌, ℕ, List, [], Result, Ok, Err, ⊤}
use Rattle.sz_types.specs.Tables.{Declaration}
use Rattle.sz_io.specs.declared.error.OutsideError.{OutsideError}
use Rattle.sz_io.specs.declared.error.OutsideError.TheVariants as outside
use Rattle.sz_disk.specs.Crashes.{Images, MayBe}
use Rattle.sz_disk.specs.Entries.{IsEmpty}
use Rattle.sz_journal.specs.declared.job.JobBytes.{JobBytes}
use Rattle.sz_journal.specs.Journals.{Spells, Stands, Empty, OtherJob, DamagedAt, Spelled}
use Rattle.sz_journal.specs.Journal.{rounds_of}
use Rattle.sz_journal.specs.declared.error.OpenError.{OpenError}
use Rattle.sz_journal.specs.declared.error.OpenError.TheVariants as errors
use Rattle.sz_journal.specs.declared.tail.Tail.{Tail}

-- an error of the outside, as one of opening
abbrev pub open_error : OutsideError → OpenError
open_error outside.Failed = errors.Failed
open_error outside.NoMemory = errors.NoMemory

-- an error that isn't one of the disk or of memory is what the bytes are for the job
abbrev pub FitsError : JobBytes → List Declaration → List ℕ → OpenError → Type 0
FitsError job decls held errors.OtherJob = Stands job decls held OtherJob
FitsError job decls held (errors.Damaged place) = Stands job decls held (DamagedAt place)
FitsError job decls held errors.Failed = ⊤
FitsError job decls held errors.NoMemory = ⊤

-- The answer is what the bytes are for the job: a journal with the rounds that they spell, or with none where there
-- was no entry; or an error.
abbrev pub FitsAnswer : JobBytes → List Declaration → List ℕ → Result Tail OpenError → Type 0
FitsAnswer job decls held (Ok journal) =
    Stands job decls held (Spelled (rounds_of journal)) ⊎ (Stands job decls held Empty × (rounds_of journal ≡ []))
FitsAnswer job decls held (Err error) = FitsError job decls held error

-- what a crash while a journal is opened might have left: what it might have left before; where there was no entry also no
-- entry, or the job without a round
abbrev pub IsKept : JobBytes → List Declaration → Images → List ℕ → List ℕ → Type 0
IsKept job decls before held image = MayBe before image ⊎ (IsEmpty held × (IsEmpty image ⊎ Spells job decls image []))
