-- What running a job over an input gives.
use Rattle.std.specs.Prelude.{◌≡◌, ℕ, ◌+◌, ◌*◌, ◌≤◌, ⊤, Bool, true, List, [], ◌++◌, length, Option, Result, Ok, Err}
use Rattle.std.specs.Io.KnownBytes.{Consumes, IsAtEnd}
use Rattle.sz_types.specs.declared.frame.Frame.{Frame}
use Rattle.sz_tabs.specs.Data.{EmitDatum}
use Rattle.sz_machine.specs.Ends.{seen_fault}
use Rattle.sz_records.specs.declared.ending.Ending.{Ending}
use Rattle.sz_records.specs.declared.ending.Ending.TheVariants as endings
use Rattle.sz_records.specs.Cutting.{full, IsCut}
use Rattle.sz_records.specs.Shards.{AreShards}
use Rattle.sz_attempt.specs.declared.job.Job.{Job}
use Rattle.sz_attempt.specs.Ends.{StandForEmits}
use Rattle.sz_workers.specs.Outcomes.{ShardsEnd, emitted, faulted, lost, outcome_from}
use Rattle.sz_workers.specs.Cuts.{cut_into}
use Rattle.sz_stream.specs.declared.done.Done.{Done}
use Rattle.sz_stream.specs.declared.tables.InputTables.{InputTables}
use Rattle.sz_stream.specs.declared.stop.Stop.{Stop}
use Rattle.sz_stream.specs.declared.stop.Stop.TheVariants.{Fault, Lost, Damaged, Limit, ReadFailed, NoMemory}

-- the input begins with what was read, and has no more where its end was reached
pub record GoesOn (read : List ℕ) (over : Bool) (input : List ℕ) : Type 0 where
  pub more : List ℕ
  pub begins : input ≡ read ++ more
  pub ends : over ≡ true → more ≡ []

-- all shards gave their emits
abbrev pub GivesAll : ShardsEnd → Type 0
GivesAll outcome = (emits : List EmitDatum) × (passed : ℕ) × (outcome ≡ emitted emits passed)

-- All shards gave their emits, and the records end with the input. The tables stand for just the emits, and the
-- records are counted: they are no more than an input may have, and each emits at most as often as it has ticks
pub record HasAll (job : Job) (count : ℕ) (ending : Ending) (outcome : ShardsEnd) (tables : InputTables) : Type 0 where
  pub emits : List EmitDatum
  pub passed : ℕ
  pub whole : ending ≡ endings.Whole
  pub given : outcome ≡ emitted emits passed
  pub stand : StandForEmits job.compiled tables.total emits
  pub counted : tables.records ≡ count
  pub within : count ≤ full.records
  pub few : length emits ≤ job.budget * count

-- The answer is that of so many records with this ending, of whose shards comes this: the first shard that decides,
-- and then the ending
abbrev pub EndsInput : Job → ℕ → Ending → ShardsEnd → Result InputTables Stop → Type 0
EndsInput job count ending outcome (Ok tables) = HasAll job count ending outcome tables
EndsInput job count ending outcome (Err (Fault number fault)) = outcome ≡ faulted number (seen_fault fault)
EndsInput job count ending outcome (Err (Lost shard)) = outcome ≡ lost shard
EndsInput job count ending outcome (Err (Damaged byte)) = (ending ≡ endings.Damaged byte) × GivesAll outcome
EndsInput job count ending outcome (Err (Limit byte)) = (ending ≡ endings.Limit byte) × GivesAll outcome
EndsInput job count ending outcome (Err ReadFailed) = ⊤
EndsInput job count ending outcome (Err NoMemory) = ⊤

-- A run behind a front of a file whose rounds are done; the input is what stands behind that front. The answer is
-- that of the records that the input is cut into and of their shards, each of so many records at most: bytes, records
-- and shards are counted on from those of the front, and so are the records that were passed over
abbrev pub RunsBehind : Done → Job → ℕ → Frame → List ℕ → Result InputTables Stop → Type 0
RunsBehind done job most frame input answer =
    (records : List (List ℕ)) (ending : Ending) (sizes : List ℕ)
    → IsCut frame full done.bytes done.records input records ending
    → AreShards most records sizes
    → EndsInput job (length records) ending
    (outcome_from job done.passed (cut_into done.shards (done.records + 1) records sizes)) answer

-- nothing of an input is done
abbrev pub nothing : Done
nothing = record { shards = 0; records = 0; bytes = 0; passed = 0 }

-- the same of a whole file, of which nothing is done
abbrev pub RunsInput : Job → ℕ → Frame → List ℕ → Result InputTables Stop → Type 0
RunsInput job most frame input answer = RunsBehind nothing job most frame input answer

-- bytes were read, perhaps to their end, and the answer is that of each input which they may begin
pub record RunsRead (job : Job) (most : ℕ) (frame : Frame) (before after : Option (List ℕ))
    (answer : Result InputTables Stop) : Type 0 where
  pub read : List ℕ
  pub over : Bool
  pub consumed : Consumes before after read
  pub at_end : over ≡ true → IsAtEnd after
  pub runs : (input : List ℕ) → GoesOn read over input → RunsInput job most frame input answer

-- the same, unless a piece couldn't be read, or memory ran out
abbrev pub RunsFile : Job → ℕ → Frame → Option (List ℕ) → Option (List ℕ) → Result InputTables Stop → Type 0
RunsFile job most frame before after (Err ReadFailed) = ⊤
RunsFile job most frame before after (Err NoMemory) = ⊤
RunsFile job most frame before after answer = RunsRead job most frame before after answer
