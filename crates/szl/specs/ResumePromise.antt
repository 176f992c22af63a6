-- What a call of the program promises where there is a disk.
use Rattle.std.specs.Prelude.{◌≡◌, ◌⊎◌, ℕ, ⊤, Bool, true, List, [], ◌∷◌, ◌++◌, length, Option, Some, None, IfSome, option_to_list, Ok, if◌then◌else◌}
use Rattle.sz_io.specs.declared.files.Files as files
use Rattle.sz_io.specs.declared.sink.Sink as sink
use Rattle.sz_types.specs.Tables.{Declaration}
use Rattle.sz_disk.specs.Crashes.{Images, MayBe, are_told}
use Rattle.sz_disk.specs.declared.disk.Disk as disks
use Rattle.sz_mean.specs.Marked.{Marked, all_tables}
use Rattle.sz_mean.specs.Programs.{statics}
use Rattle.sz_world_rules.specs.World.{Done}
use Rattle.sz_world_rules.specs.Slots.{Slot}
use Rattle.sz_records.specs.declared.ending.Ending.{Ending}
use Rattle.sz_workers.specs.Outcomes.{ShardsEnd}
use Rattle.sz_protofile.specs.Types.{TypeShape}
use Rattle.sz_protofile_types.specs.Readings.{FileReading, with_types}
use Rattle.sz_words.specs.declared.settings.RunSettings.{RunSettings}
use Rattle.sz_words.specs.declared.settings.Settings.{Settings}
use Rattle.sz_words.specs.declared.settings.Settings.TheVariants.{Resume}
use Rattle.sz_attempt.specs.declared.job.Job.{Job}
use Rattle.sz_journal.specs.declared.job.JobBytes.{JobBytes}
use Rattle.sz_journal.specs.declared.round.RoundEntry.{RoundEntry}
use Rattle.sz_journal.specs.Rounds.{last_progress}
use Rattle.sz_journal.specs.Journals.{Standing, Stands, Spells}
use Rattle.sz_disk.specs.Crashing.{LeavesOnly}
use Rattle.sz_disk.specs.Entries.{IsEmpty}
use Rattle.sz_resume.specs.Standing.{Source, IsFound}
use Rattle.sz_resume.specs.Stops.{IsLeft, AreSmall, HoldsAll}
use Rattle.szl.specs.declared.status.Status.{Status}
use Rattle.szl.specs.declared.status.Status.TheVariants as status
use Rattle.szl.specs.Answers.{Answer, disk_failed_line}
use Rattle.szl.specs.Judgement.{Reading, IsRead, spells}
use Rattle.szl.specs.Outcome.{outcome_of_shards, outcome_of_statics}
use Rattle.szl.specs.ProtoFiles.{IsFileRead, IsOfFile}
use Rattle.szl.specs.Promise.{IfRead, IsStatusOf, GainsOutput, IsLeftAlone, OpensFiles, line_of, names_asked}
use Rattle.sz_io.specs.Calls.{GainsLine}
use Rattle.szl.specs.Records.{Cut, IsCutInto}
use Rattle.szl.specs.Resuming.{kept_job, source_of, unless_journal, outcome_of_resume}
use Rattle.szl.specs.Savable.{savable}
use Rattle.szl.specs.Shards.{job_of}

-- the settings of the job that is to be resumed, if one is asked for and there is a disk for its journal
abbrev pub job_asked : (has_disk : Bool) → Option Settings → Option RunSettings
job_asked has_disk (Some (Resume s)) = if has_disk then Some s else None
job_asked has_disk _ = None

-- something is so of the settings of a job that is resumed, and where there is none something else
abbrev pub IfJob : Option RunSettings → (RunSettings → Type 0) → Type 0 → Type 0
IfJob (Some s) IsSo other = IsSo s
IfJob None IsSo other = other

-- something is so of the settings of a job that is resumed, and of other commands something else
abbrev pub ByCommand : Option Settings → (RunSettings → Type 0) → Type 0 → Type 0
ByCommand asked IsSo other = IfJob (job_asked true asked) IsSo other

-- the names that settings may open, in order, of which this is the job that is resumed, if one is
abbrev pub names_by : Option RunSettings → Option Settings → List (List ℕ)
names_by (Some s) asked = option_to_list s.proto ++ s.program ∷ s.input ∷ []
names_by None asked = names_asked asked

-- the names that settings may open where there is a disk, in order
abbrev pub names_on_disk : Option Settings → List (List ℕ)
names_on_disk asked = names_by (job_asked true asked) asked

-- What is so of a program that the words ask for, and of its statics, where this is what was read, and these types are known: if the program can be
-- run and saved, and no static faults
abbrev pub IfSpelled : RunSettings → List TypeShape → Reading → (Marked → List Slot → Type 0) → Type 0
IfSpelled s types (spells statements) IsSo =
    (program : Marked) (slots : List Slot) → savable types true s.ignore_undefs statements ≡ Ok program → statics program s.budget ≡ Done slots
    → IsSo program slots
IfSpelled s types reading IsSo = ⊤

-- the same where the `.proto` file is read so
abbrev pub IfRun : RunSettings → FileReading → Reading → (Marked → List Slot → Type 0) → Type 0
IfRun s (with_types types) reading IsSo = IfSpelled s types reading IsSo
IfRun s file reading IsSo = ⊤

-- The answer after a journal: a shard that decides, or the ending of the input, or an output; two files are opened for it. Where the input and the
-- journal are told, and the journal is one that calls of the job may find, the answer is that of the run
pub record IsRest (s : RunSettings) (IfSo : (Marked → List Slot → Type 0) → Type 0) (name : JobBytes) (input : Option (List ℕ)) (cut : Cut)
    (journal : Option (List ℕ)) (rest : Answer) : Type 0 where
  pub end : ShardsEnd
  pub ending : Ending
  pub output : List ℕ
  pub is : rest ≡ record (outcome_of_shards (λ emits. output) ending end) { opens = 2 }
  pub of_run : IfSo (λ program slots. (bytes held : List ℕ) (rounds : List RoundEntry) → input ≡ Some bytes → journal ≡ Some held
      → IsFound name (job_of program slots s) (source_of s bytes) held rounds → rest ≡ outcome_of_statics program s cut (Done slots))

-- The outcome by a journal and by an input, where they hold these bytes if they tell them; `outcome_by` has the causes that come before. What the journal
-- is for the job is said where that is known. Where the input or the journal doesn't tell its bytes, of the answer after the journal its form alone is said
pub record IsByJournal (s : RunSettings) (IfSo : (Marked → List Slot → Type 0) → Type 0) (name : JobBytes)
    (outcome_by : (Answer → Answer) → Answer → Answer) (told journal : Option (List ℕ)) (Known : Type 0 → Type 0) (outcome : Answer) : Type 0 where
  pub input : List ℕ
  pub cut : Cut
  pub is_cut : IsCutInto s.frame input cut
  pub of_input : IfSome told (λ bytes. bytes ≡ input)
  pub standing : Standing
  pub stands : Known (IfSo (λ program slots. IfSome journal (λ held. Stands name (all_tables program) held standing)))
  pub rest : Answer
  pub behind : IsRest s IfSo name told cut journal rest
  pub is : outcome ≡ outcome_by (unless_journal name standing (length input)) rest

-- a disk that failed leaves as much open as want of memory does
abbrev pub free_status : Status → Status
free_status status.DiskFailed = status.NoMemory
free_status status = status

-- what is so, unless a file or the disk failed or memory ran out
abbrev pub IfKnown : Status → Type 0 → Type 0
IfKnown status fact = IfRead (free_status status) fact

-- The outcome of a job that is resumed, for the bytes that the files and the disk hold. Where the program or the file of types doesn't tell its bytes, it is
-- as if it held some. Where the input or the disk doesn't, the answer after the journal has its form alone
pub record IsJobOutcome {F K : Type 0} (the_files : files.Ghosts F) (the_disk : disks.Ghosts K) (s : RunSettings) (status : Status) (files : F) (disk : K)
    (outcome : Answer) : Type 0 where
  pub proto : List ℕ
  pub file : FileReading
  pub file_read : IsFileRead proto file
  pub of_file : IsOfFile s.proto (the_files.held files) proto
  pub text : List ℕ
  pub reading : Reading
  pub read : IsRead text reading
  pub of_program : IfSome (the_files.held files s.program) (λ bytes. bytes ≡ text)
  pub by_journal : IsByJournal s (IfRun s file reading) (kept_job s text proto) (outcome_of_resume s file reading) (the_files.held files s.input)
      (the_disk.bytes disk) (IfKnown status) outcome

-- the status is the outcome's, or one of the four that a device or want of memory brings
abbrev pub IsStatusOnDisk : Answer → Status → Type 0
IsStatusOnDisk answer status.DiskFailed = ⊤
IsStatusOnDisk answer status = IsStatusOf answer status

-- the line of a status: that of a disk that failed is fixed, as those of the other free statuses are
abbrev pub line_on_disk : Answer → Status → List ℕ
line_on_disk answer status.DiskFailed = disk_failed_line
line_on_disk answer status = line_of answer status

-- The call's status, its output, its line and the files that it opens are those of the outcome
pub record MeansJob {F O E K : Type 0} (the_files : files.Ghosts F) (the_out : sink.Ghosts O) (the_err : sink.Ghosts E) (the_disk : disks.Ghosts K)
    (s : RunSettings) (status : Status) (files new_files : F) (out new_out : O) (err new_err : E) (disk : K) : Type 0 where
  pub outcome : Answer
  pub of : IsJobOutcome the_files the_disk s status files disk outcome
  pub answers : IsStatusOnDisk outcome status
  pub output : GainsOutput status (the_out.taken out) (the_out.taken new_out) outcome.output
  pub left_alone : IsLeftAlone status outcome.output out new_out
  pub line : GainsLine the_err err new_err (line_on_disk outcome status)
  pub opened : OpensFiles the_files files new_files (option_to_list s.proto ++ s.program ∷ s.input ∷ []) outcome.opens (free_status status)

-- The call keeps its promise with the outcome's status itself, or with want of memory: no device's failure stands in its place
pub record CompletesJob {F O E K : Type 0} (the_files : files.Ghosts F) (the_out : sink.Ghosts O) (the_err : sink.Ghosts E)
    (the_disk : disks.Ghosts K) (s : RunSettings) (st : Status) (files new_files : F) (out new_out : O) (err new_err : E) (disk : K) : Type 0 where
  pub means : MeansJob the_files the_out the_err the_disk s st files new_files out new_out err new_err disk
  pub status_is : (st ≡ status.NoMemory) ⊎ (st ≡ means.outcome.status)

-- it might have been left before the call, or may be left while the job adds these rounds
abbrev pub IsLeftOr : Images → JobBytes → Job → Source → List ℕ → (before added : List RoundEntry) → List ℕ → Type 0
IsLeftOr images name job source held before added image = MayBe images image ⊎ IsLeft name job source held before added image

-- What a crash leaves of the journal of a job, of which a read gives one that calls of the job may find, with these rounds. At any moment of the call it is
-- what a crash before might have left, or the journal with the first of the rounds that the call adds; and where the call came to its end, it is the whole
-- journal. Each round that is added has at most 4,096 shards
pub record KeepsJob {K : Type 0} (the_disk : disks.Ghosts K) (name : JobBytes) (job : Job) (source : Source) (held : List ℕ) (before : List RoundEntry)
    (st : Status) (disk new_disk : K) : Type 0 where
  pub added : List RoundEntry
  pub small : AreSmall (last_progress before) added
  pub stopped : are_told (the_disk.may_leave disk) ≡ true
      → LeavesOnly the_disk.time the_disk.left_since disk new_disk (IsLeftOr (the_disk.may_leave disk) name job source held before added)
  pub ended : st ≡ status.Done → HoldsAll (the_disk.bytes new_disk) (the_disk.may_leave new_disk) name job source (before ++ added)

-- the same of each job with this name, over an input and a disk that tell their bytes
abbrev pub KeepsFound : {K : Type 0} → disks.Ghosts K → RunSettings → ((Marked → List Slot → Type 0) → Type 0) → JobBytes → Option (List ℕ) → Status → K
    → K → Type 0
KeepsFound the_disk s IfSo name told status disk new_disk =
    (input held : List ℕ) → told ≡ Some input → the_disk.bytes disk ≡ Some held
    → IfSo (λ program slots. (before : List RoundEntry) → IsFound name (job_of program slots s) (source_of s input) held before
    → KeepsJob the_disk name (job_of program slots s) (source_of s input) held before status disk new_disk)

-- Both spell a job with such a name, the second one with the rounds of the first and others after them. The first may have no entry, and then it has no
-- rounds
pub record SpellsOn (IsName : JobBytes → Type 0) (held image : List ℕ) : Type 0 where
  pub name : JobBytes
  pub is_name : IsName name
  pub decls : List Declaration
  pub before : List RoundEntry
  pub more : List RoundEntry
  pub was : (IsEmpty held × (before ≡ [])) ⊎ Spells name decls held before
  pub is : Spells name decls image (before ++ more)

-- No round is lost: what is left might have been left before; or neither this nor what was held has an entry; or it spells a job with the rounds that were
-- held, and others after them. What the others stand for isn't said here
abbrev pub LosesNothing : (JobBytes → Type 0) → Images → (held image : List ℕ) → Type 0
LosesNothing IsName before held image = MayBe before image ⊎ ((IsEmpty held × IsEmpty image) ⊎ SpellsOn IsName held image)

-- Whatever a crash during the call might have left of the disk loses nothing of what it held, whatever the files hold, where that is told. What a crash before
-- the call might have left is what a read gives, unless a call before this one ended while a write wasn't synced
abbrev pub KeepsEntries : {K : Type 0} → disks.Ghosts K → (JobBytes → Type 0) → K → K → Type 0
KeepsEntries the_disk IsName disk new_disk =
    (held : List ℕ) → the_disk.bytes disk ≡ Some held → are_told (the_disk.may_leave disk) ≡ true
    → LeavesOnly the_disk.time the_disk.left_since disk new_disk (LosesNothing IsName (the_disk.may_leave disk) held)

-- What a call leaves of the disk: it isn't called where there is no program that can be run, with statics; a journal that isn't empty and isn't one of a
-- job with this name is left as it is; and what is kept of one that calls of the job may find
pub record KeepsDisk {K : Type 0} (the_disk : disks.Ghosts K) (s : RunSettings) (IfSo : (Marked → List Slot → Type 0) → Type 0) (name : JobBytes)
    (told : Option (List ℕ)) (status : Status) (disk new_disk : K) : Type 0 where
  pub untouched : IfSo (λ program slots. ⊥) → new_disk ≡ disk
  pub entries : KeepsEntries the_disk (λ other. other ≡ name) disk new_disk
  pub found : KeepsFound the_disk s IfSo name told status disk new_disk

-- what the words ask for makes this name, with some texts of the program and of the file of types
pub record IsNameFor (s : RunSettings) (name : JobBytes) : Type 0 where
  pub program : List ℕ
  pub proto : List ℕ
  pub is : name ≡ kept_job s program proto

-- the file of this name tells that it has these bytes; without a name there are none
abbrev pub IsToldFile : Option (List ℕ) → (List ℕ → Option (List ℕ)) → List ℕ → Type 0
IsToldFile None held bytes = bytes ≡ []
IsToldFile (Some name) held bytes = held name ≡ Some bytes

-- What a call leaves of the disk for the job that the words ask for: it loses nothing; and where the files tell their bytes, it keeps the journal of
-- this job, and isn't called without a program that can be run
pub record KeepsJournal {F K : Type 0} (the_files : files.Ghosts F) (the_disk : disks.Ghosts K) (s : RunSettings) (status : Status) (files : F)
    (disk new_disk : K) : Type 0 where
  pub entries : KeepsEntries the_disk (IsNameFor s) disk new_disk
  pub of_job : (text proto : List ℕ) (file : FileReading) (reading : Reading) → the_files.held files s.program ≡ Some text
      → IsToldFile s.proto (the_files.held files) proto → IsFileRead proto file → IsRead text reading
      → KeepsDisk the_disk s (IfRun s file reading) (kept_job s text proto) (the_files.held files s.input) status disk new_disk
