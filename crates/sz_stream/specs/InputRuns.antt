-- What is known between two rounds, and what each step of the loop over them changes.
use Rattle.std.specs.Prelude.{◌≡◌, ℕ, suc, ◌+◌, ◌-◌, ◌*◌, ◌^◌, ◌<◌, ◌≤◌, ⊤, Bool, true, false, List, [], ◌++◌, length, Option, Some, None, is_some}
use Rattle.std.specs.Prelude.{Result, Ok, Err}
use Rattle.std.specs.Io.KnownBytes.{Consumes, IsAtEnd}
use Rattle.sz_types.specs.declared.frame.Frame.{Frame}
use Rattle.sz_tabs.specs.Data.{EmitDatum}
use Rattle.sz_total.specs.States.{TotalState}
use Rattle.sz_io.specs.declared.error.OutsideError.{OutsideError}
use Rattle.sz_io.specs.declared.error.OutsideError.TheVariants as outside
use Rattle.sz_records.specs.declared.ending.Ending.{Ending}
use Rattle.sz_records.specs.declared.ending.Ending.TheVariants as endings
use Rattle.sz_records.specs.Cutting.{full, place_after, ends_in}
use Rattle.sz_records.specs.Fed.{FramerData}
use Rattle.sz_records.specs.Shards.{AreShards}
use Rattle.sz_attempt.specs.declared.job.Job.{Job}
use Rattle.sz_attempt.specs.Ends.{StandForEmits}
use Rattle.sz_machine.specs.Ends.{seen_fault}
use Rattle.sz_workers.specs.Outcomes.{ShardsEnd, emitted, faulted, lost, after_front, outcome_from}
use Rattle.sz_workers.specs.Rounds.{shards_of}
use Rattle.sz_workers.specs.Cuts.{ranges_of, cut_into}
use Rattle.sz_stream.specs.declared.done.Done.{Done}
use Rattle.sz_stream.specs.declared.intake.Intake.{Intake}
use Rattle.sz_stream.specs.declared.tables.InputTables.{InputTables}
use Rattle.sz_stream.specs.declared.stop.Stop.{Stop}
use Rattle.sz_stream.specs.declared.stop.Stop.TheVariants.{Fault, Lost, ReadFailed, NoMemory, Damaged, Limit}
use Rattle.sz_stream.specs.Inputs.{GoesOn}
use Rattle.sz_stream.specs.Intakes.{AreClosed, sum_of, CanGoOn, IsFed, FitsRound, WantsPiece}

-- A run goes on after shards that were run. They gave these emits, `front_passed` of their records were passed over,
-- and `passed` with those before them.
-- What comes of all shards is what comes of those of the rest, which begin with the shard of this number, from 0, and
-- the record of this number, from 1
pub record RunsOn (job : Job) (most number first front_passed passed : ℕ) (emits : List EmitDatum)
    (rest : List (List ℕ)) (outcome : ShardsEnd)
    : Type 0 where
  pub sizes : List ℕ
  pub are : AreShards most rest sizes
  pub goes_on : outcome ≡ after_front emits front_passed (outcome_from job passed (cut_into number first rest sizes))

-- Of the records that were given behind what of the input is done, all but those at hand were run, shard by shard,
-- and no shard decided: so many of all were passed over, and these are the emits of the others
pub record HasRun (done : Done) (job : Job) (most : ℕ) (at_end : Bool) (given records : List (List ℕ))
    (number first passed : ℕ) (emits : List EmitDatum)
    : Type 0 where
  pub count : ℕ
  pub begun : first ≡ done.records + suc count
  pub low : passed ≤ job.skip
  pub more_passed : ℕ
  pub passed_so_far : passed ≡ done.passed + more_passed
  pub fewer : more_passed ≤ count
  pub few : length emits ≤ job.budget * count
  pub runs : (more : List (List ℕ)) → (at_end ≡ true → more ≡ []) → (all : List ℕ) → AreShards most (given ++ more) all
      → RunsOn job most number first more_passed passed emits (records ++ more)
      (outcome_from job done.passed (cut_into done.shards (done.records + 1) (given ++ more) all))

-- These bytes were read, perhaps to their end. The records at hand are the last of those that were given, and end
-- where they do in each input that goes on so; the round's shards are closed, and all shards before them were run
pub record IsRunning (done : Done) (job : Job) (frame : Frame) (most : ℕ) (intake : Intake) (emits : List EmitDatum)
    (read : List ℕ) (over : Bool)
    : Type 0 where
  pub can : CanGoOn done
  pub given : List (List ℕ)
  pub front : List (List ℕ)
  pub given_is : given ≡ front ++ intake.round.records.items
  pub fed : IsFed done frame intake.framer intake.ending read over given
  pub low : 1 ≤ most
  pub limit : intake.most ≡ most
  pub sizes : List ℕ
  pub are : AreClosed most (is_some intake.ending) intake.round.records.items sizes
  pub shards : intake.round.shards ≡ ranges_of 0 intake.first sizes
  pub fits : FitsRound intake
  pub closed : intake.closed ≡ sum_of sizes
  pub count : intake.first + length intake.round.records.items ≡ 1 + done.records + length given
  pub ends : (rest : List ℕ) → GoesOn read over rest → intake.round.records.ends
      ≡ ends_in done.bytes done.records frame full rest (length given - length intake.round.records.items)
      (length intake.round.records.items)
  pub numbers : intake.round.first_shard + 1 ≤ intake.first
  pub run : HasRun done job most (is_some intake.ending) given
      intake.round.records.items intake.round.first_shard intake.first intake.round.passed emits

-- from what was left at the start, behind what of the input is done, to what is left now bytes were read, and this is
-- known of them
pub record Reaches (done : Done) (job : Job) (frame : Frame) (most : ℕ) (intake : Intake) (emits : List EmitDatum)
    (start left : Option (List ℕ))
    : Type 0 where
  pub read : List ℕ
  pub over : Bool
  pub running : IsRunning done job frame most intake emits read over
  pub consumed : Consumes start left read
  pub at_end : over ≡ true → IsAtEnd left

-- more can be read: the intake has run some shards of some front of a file, and has the rest of that front at hand
pub record CanRead (intake : Intake) : Type 0 where
  pub done : Done
  pub job : Job
  pub frame : Frame
  pub most : ℕ
  pub emits : List EmitDatum
  pub read : List ℕ
  pub over : Bool
  pub running : IsRunning done job frame most intake emits read over

-- the same, and the round has a shard
pub record HasRound (job : Job) (intake : Intake) (emits : List EmitDatum) : Type 0 where
  pub done : Done
  pub frame : Frame
  pub most : ℕ
  pub read : List ℕ
  pub over : Bool
  pub running : IsRunning done job frame most intake emits read over
  pub some : 0 < length intake.round.shards

-- the same, where tables stand for the emits
pub record CanRun (job : Job) (intake : Intake) (total : TotalState) : Type 0 where
  pub emits : List EmitDatum
  pub stand : StandForEmits job.compiled total emits
  pub has_round : HasRound job intake emits

-- The intake took in each byte that was read from what was left before to what is left after, and ran no shard: with
-- the emits that were known, all is known of the longer front of the file that was known of the shorter
abbrev pub Fills : Intake → Intake → Option (List ℕ) → Option (List ℕ) → Type 0
Fills old new before after =
    (done : Done) (job : Job) (frame : Frame) (most : ℕ) (emits : List EmitDatum) (start : Option (List ℕ))
    → Reaches done job frame most old emits start before → Reaches done job frame most new emits start after

-- how many bytes may still be read: no more than an input may have, and those of a length that is begun
abbrev pub left_to_read : Option Ending → FramerData → ℕ
left_to_read None framer = 2 ^ 40 + 10 - (framer.cutter.place + length framer.pending)
left_to_read (Some e) framer = 0

-- a piece of no more bytes than so many was read
pub record HasPiece (most : ℕ) (before after : Option (List ℕ)) : Type 0 where
  pub piece : List ℕ
  pub short : length piece ≤ most
  pub consumed : Consumes before after piece

-- a piece was read and taken in
pub record ReadsPiece (room : ℕ) (old new : Intake) (before after : Option (List ℕ)) : Type 0 where
  pub fills : Fills old new before after
  pub piece : HasPiece room before after
  pub can_read : CanRead new
  pub less : left_to_read new.ending new.framer < left_to_read old.ending old.framer

-- No more was read than was wanted: all pieces but the last were taken in, and then a piece was wanted for the round
-- that begins here
pub record ReadsNoMore (room : ℕ) (old new : Intake) (before after : Option (List ℕ)) : Type 0 where
  pub last : Intake
  pub left : Option (List ℕ)
  pub fills : Fills old last before left
  pub first : last.first ≡ old.first
  pub wants : WantsPiece last
  pub piece : HasPiece room left after
  pub then_fills : Fills last new left after

-- all these bytes were taken in, and then the end
pub record HasTakenAll (done : Done) (job : Job) (frame : Frame) (most : ℕ) (intake : Intake) (emits : List EmitDatum)
    (bytes : List ℕ) : Type 0 where
  pub reached : Reaches done job frame most intake emits (Some bytes) (Some [])
  pub known : is_some intake.ending ≡ true

abbrev pub TakesAll : Intake → Intake → List ℕ → Type 0
TakesAll old new bytes = (done : Done) (job : Job) (frame : Frame) (most : ℕ) (emits : List EmitDatum)
    → IsRunning done job frame most old emits [] false → HasTakenAll done job frame most new emits bytes

-- reading has come as far as it has to: the round has a shard, or the ending is known and no record is left
abbrev pub IsReady : Intake → Type 0
IsReady intake = length intake.round.shards ≡ 0
    → (is_some intake.ending ≡ true) × (length intake.round.records.items ≡ 0)

-- the tables stand for the emits of all that was run
pub record Gathers (done : Done) (job : Job) (frame : Frame) (most : ℕ) (intake : Intake) (total : TotalState)
    (start left : Option (List ℕ))
    : Type 0 where
  pub emits : List EmitDatum
  pub stand : StandForEmits job.compiled total emits
  pub reached : Reaches done job frame most intake emits start left

-- the round was run, and no shard of it decides
pub record RunsRound (job : Job) (old new : Intake) (total merged : TotalState) : Type 0 where
  pub goes_on : (done : Done) (frame : Frame) (most : ℕ) (start left : Option (List ℕ))
      → Gathers done job frame most old total start left → Gathers done job frame most new merged start left
  pub further : old.first < new.first
  pub ending : new.ending ≡ old.ending

-- what is done once the round is ends, in each input that goes on so, where the last of its records does
abbrev pub EndsAt : Intake → Done → Type 0
EndsAt intake next =
    (done : Done) (job : Job) (frame : Frame) (most : ℕ) (emits : List EmitDatum) (read : List ℕ) (over : Bool)
    → IsRunning done job frame most intake emits read over → (rest : List ℕ) → GoesOn read over rest
    → next.bytes ≡ place_after frame full done.bytes done.records rest (next.records - done.records)

-- where no shard of the round decides, and so many of its records are passed over, all is known after it with its
-- emits that was before it
abbrev pub MovesOn : ℕ → Intake → Intake → Type 0
MovesOn passed old new =
    (done : Done) (job : Job) (frame : Frame) (most : ℕ) (emits es : List EmitDatum) (start left : Option (List ℕ))
    → Reaches done job frame most old emits start left
    → outcome_from job old.round.passed (shards_of old.round) ≡ emitted es passed
    → Reaches done job frame most new (emits ++ es) start left

-- what comes of shards ends a run so: the first of them that decides does
abbrev pub StopsShards : ShardsEnd → Stop → Type 0
StopsShards end (Fault number fault) = end ≡ faulted number (seen_fault fault)
StopsShards end (Lost shard) = end ≡ lost shard
StopsShards end NoMemory = ⊤
StopsShards end stop = ⊥

-- the tables of so many records, by how the records end
abbrev pub ended_so : TotalState → ℕ → Ending → Result InputTables Stop
ended_so total records endings.Whole = Ok (record { total = total; records = records })
ended_so total records (endings.Damaged byte) = Err (Damaged byte)
ended_so total records (endings.Limit byte) = Err (Limit byte)

-- why a piece wasn't read
abbrev pub stop_of : OutsideError → Stop
stop_of outside.Failed = ReadFailed
stop_of outside.NoMemory = NoMemory
