-- What running a job on after its journal gives.
use Rattle.std.specs.Prelude.{◌≡◌, ℕ, ◌*◌, ◌<◌, ◌≤◌, ⊤, Bool, true, false, List, length, Option, IfSome, Result, Ok, Err}
use Rattle.std.specs.Io.KnownBytes.{Consumes, IsAtEnd}
use Rattle.sz_mean.specs.Marked.{all_tables}
use Rattle.sz_tabs.specs.Data.{EmitDatum}
use Rattle.sz_machine.specs.Ends.{seen_fault}
use Rattle.sz_save_format.specs.Saved.{SavedState}
use Rattle.sz_save.specs.Saving.{state_of_emits}
use Rattle.sz_records.specs.declared.ending.Ending.{Ending}
use Rattle.sz_records.specs.declared.ending.Ending.TheVariants as endings
use Rattle.sz_records.specs.Cutting.{full, IsCut}
use Rattle.sz_records.specs.Shards.{AreShards}
use Rattle.sz_attempt.specs.declared.job.Job.{Job}
use Rattle.sz_workers.specs.Outcomes.{ShardsEnd, emitted, faulted, lost, outcome_of}
use Rattle.sz_workers.specs.Cuts.{cut_into}
use Rattle.sz_journal.specs.declared.job.JobBytes.{JobBytes}
use Rattle.sz_journal.specs.Rounds.{AreRounds, last_progress}
use Rattle.sz_journal.specs.Journals.{Spells}
use Rattle.sz_journal.specs.declared.tail.Tail.{Tail}
use Rattle.sz_journal.specs.Journal.{rounds_of, last_gate, IsOf}
use Rattle.sz_stream.specs.declared.stop.Stop.TheVariants as stops
use Rattle.sz_stream.specs.Inputs.{GivesAll}
use Rattle.sz_resume.specs.declared.halt.Halt.{Halt}
use Rattle.sz_resume.specs.declared.halt.Halt.TheVariants.{Stopped, Short}
use Rattle.sz_resume.specs.Standing.{Source}

-- The journal is one of the job with this name, and its disk spells it where it tells its bytes: so the numbers of its rounds are within their bounds, and
-- a further round can be appended
pub record IsJournalOf (name : JobBytes) (job : Job) (journal : Tail) (bytes : Option (List ℕ)) : Type 0 where
  pub is_of : IsOf name journal
  pub budget : name.budget ≡ job.budget
  pub skip : name.skip ≡ job.skip
  pub spells : IfSome bytes (λ held. Spells name (all_tables job.compiled) held (rounds_of journal))
  pub are : AreRounds name (all_tables job.compiled) (rounds_of journal)

-- so many bytes of a file were dropped, or all that were left, which are fewer
pub record Skips (before after : Option (List ℕ)) (bytes : ℕ) (all : Bool) : Type 0 where
  pub dropped : List ℕ
  pub consumed : Consumes before after dropped
  pub no_more : length dropped ≤ bytes
  pub enough : all ≡ true → length dropped ≡ bytes
  pub short : all ≡ false → (length dropped < bytes) × IsAtEnd after

-- what the tables hold is what is saved of all emits of so many records, and the bound is the ticks of these records
abbrev pub HoldsEmits : Job → ℕ → List EmitDatum → SavedState → Type 0
HoldsEmits job count emits tables = tables ≡ state_of_emits (count * job.budget) (all_tables job.compiled) emits

-- the answer is that of an input of so many bytes, with so many records, which have this ending, and of whose shards comes this
abbrev pub EndsJob : Job → Tail → (size count : ℕ) → Ending → ShardsEnd → Result SavedState Halt → Type 0
EndsJob job journal size count ending outcome (Ok tables) =
    (emits : List EmitDatum) × (passed : ℕ) × (ending ≡ endings.Whole) × (outcome ≡ emitted emits passed) × HoldsEmits job count emits tables
EndsJob job journal size count ending outcome (Err (Short gate)) = (gate ≡ last_gate journal) × (size < (last_progress (rounds_of journal)).bytes)
EndsJob job journal size count ending outcome (Err (Stopped (stops.Fault number fault))) = outcome ≡ faulted number (seen_fault fault)
EndsJob job journal size count ending outcome (Err (Stopped (stops.Lost shard))) = outcome ≡ lost shard
EndsJob job journal size count ending outcome (Err (Stopped (stops.Damaged byte))) = (ending ≡ endings.Damaged byte) × GivesAll outcome
EndsJob job journal size count ending outcome (Err (Stopped (stops.Limit byte))) = (ending ≡ endings.Limit byte) × GivesAll outcome
EndsJob job journal size count ending outcome (Err other) = ⊤

-- the answer is that of the records of a source, and of the shards that they are cut into
abbrev pub RunsSource : Job → Tail → Source → Result SavedState Halt → Type 0
RunsSource job journal source answer =
    (records : List (List ℕ)) (ending : Ending) (sizes : List ℕ) → IsCut source.frame full 0 0 source.bytes records ending
    → AreShards source.most records sizes
    → EndsJob job journal (length source.bytes) (length records) ending (outcome_of job (cut_into 0 1 records sizes)) answer

-- an answer of a file that tells its bytes says that it is too short exactly where it is
abbrev pub TellsShort : Tail → List ℕ → Result SavedState Halt → Type 0
TellsShort journal bytes (Err (Short gate)) = (gate ≡ last_gate journal) × (length bytes < (last_progress (rounds_of journal)).bytes)
TellsShort journal bytes (Err (Stopped stops.ReadFailed)) = ⊤
TellsShort journal bytes (Err (Stopped stops.NoMemory)) = ⊤
TellsShort journal bytes answer = (last_progress (rounds_of journal)).bytes ≤ length bytes
