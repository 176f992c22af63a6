-- The bytes of a job: what a command line asks for, and the texts of the program and of its types.
use Rattle.std.specs.Prelude.{◌≡◌, ℕ, Bool, true, false, List, ◌∷◌, ◌++◌, length, flat_map, codes}
use Rattle.std.specs.List.{AllByRecursion}
use Rattle.sz_types.specs.declared.frame.Frame.{Frame}
use Rattle.sz_types.specs.declared.frame.Frame.TheVariants.{Lines, Delimited}
use Rattle.sz_flat.specs.Spelling.{length_bytes, IsShort}
use Rattle.sz_save_format.specs.Entries.{count_bytes, IsCount}
use Rattle.sz_journal.specs.declared.job.Triple.{Triple}
use Rattle.sz_journal.specs.declared.job.JobBytes.{JobBytes}

-- how the bytes of a job begin
abbrev pub mark : List ℕ
mark = codes "SZJOB001"

-- the byte of a way to tell records apart
abbrev pub frame_byte : Frame → ℕ
frame_byte Lines = 0
frame_byte Delimited = 1

-- the byte of a truth value
abbrev pub flag_byte : Bool → ℕ
flag_byte false = 0
flag_byte true = 1

-- a kill in 12 bytes: the shard, the attempt, and after how many records
abbrev pub triple_bytes : Triple → List ℕ
triple_bytes kill = length_bytes kill.shard ++ (length_bytes kill.number ++ length_bytes kill.after)

-- the kills, and the shards with two tickets, each behind their number in 4 bytes
abbrev pub kills_bytes : List Triple → List ℕ
kills_bytes kills = length_bytes (length kills) ++ flat_map triple_bytes kills

abbrev pub doubled_bytes : List ℕ → List ℕ
doubled_bytes shards = length_bytes (length shards) ++ flat_map length_bytes shards

-- a text behind its length in 8 bytes
abbrev pub text_bytes : List ℕ → List ℕ
text_bytes text = count_bytes (length text) ++ text

-- the bytes of a job: its mark; how records are told apart; the numbers, and between them whether undefined values
-- are passed over; the kills and the shards with two tickets; the program and the file of types
abbrev pub job_bytes : JobBytes → List ℕ
job_bytes job =
    mark
    ++ (frame_byte job.frame ∷ (length_bytes job.shard ++ (length_bytes job.attempts ++ (count_bytes job.budget
    ++ (flag_byte job.ignoring ∷ (length_bytes job.skip ++ (kills_bytes job.kills ++ (doubled_bytes job.doubled
    ++ (text_bytes job.program ++ text_bytes job.proto)))))))))

-- each of the three numbers has 4 bytes
pub record IsShortTriple (kill : Triple) : Type 0 where
  pub shard : IsShort kill.shard
  pub number : IsShort kill.number
  pub after : IsShort kill.after

-- each number of the job has the bytes that its place has
pub record IsSpelledJob (job : JobBytes) : Type 0 where
  pub shard : IsShort job.shard
  pub attempts : IsShort job.attempts
  pub budget : IsCount job.budget
  pub skip : IsShort job.skip
  pub few_kills : IsShort (length job.kills)
  pub kills : AllByRecursion IsShortTriple job.kills
  pub few_doubled : IsShort (length job.doubled)
  pub doubled : AllByRecursion IsShort job.doubled
  pub program : IsCount (length job.program)
  pub proto : IsCount (length job.proto)

-- the bytes are those of the job
pub record IsOfJob (bytes : List ℕ) (job : JobBytes) : Type 0 where
  pub spelled : IsSpelledJob job
  pub is : bytes ≡ job_bytes job

-- the bytes are those of a job, whatever its numbers are
abbrev pub IsJob : List ℕ → Type 0
IsJob bytes = (job : JobBytes) × IsOfJob bytes job
