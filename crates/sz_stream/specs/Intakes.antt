-- What is known of an input that comes in pieces, and what taking a piece in, closing shards and moving on change.
use Rattle.std.specs.Prelude.{◌≡◌, ◌⊎◌, ℕ, ◌+◌, ◌-◌, ◌^◌, ◌<◌, ◌≤◌, ◌==◌, Bool, true, false, List, [], ◌∷◌, ◌++◌, length, take, drop, get_or}
use Rattle.std.specs.Prelude.{Option, Some, None, is_some, if◌then◌else◌}
use Rattle.sz_types.specs.declared.frame.Frame.{Frame}
use Rattle.sz_records.specs.declared.ending.Ending.{Ending}
use Rattle.sz_records.specs.declared.ending.Ending.TheVariants.{Whole}
use Rattle.sz_records.specs.Cutting.{full, IsCut}
use Rattle.sz_records.specs.Ends.{RecordsData, no_records, later_of}
use Rattle.sz_records.specs.Fed.{FramerData, HasReadBehind, EndSo}
use Rattle.sz_records.specs.Shards.{bytes_in, IsFull, IsShard, MayGoOn}
use Rattle.sz_workers.specs.Cuts.{ranges_of}
use Rattle.sz_stream.specs.declared.done.Done.{Done}
use Rattle.sz_stream.specs.declared.intake.Intake.{Intake}
use Rattle.sz_stream.specs.Inputs.{GoesOn}

-- the first n records are a shard, whatever records are still to come; at the end there are no more
pub record IsClosed (most : ℕ) (at_end : Bool) (records : List (List ℕ)) (n : ℕ) : Type 0 where
  pub some : 0 < n
  pub within : n ≤ length records
  pub shard : (more : List (List ℕ)) → (at_end ≡ true → more ≡ []) → IsShard most (records ++ more) n

-- the shards at the front have these sizes
abbrev pub AreClosed : ℕ → Bool → List (List ℕ) → List ℕ → Type 0
AreClosed most at_end records [] = Unit {0}
AreClosed most at_end records (n ∷ ns) = IsClosed most at_end records n × AreClosed most at_end (drop n records) ns

-- how many records are in shards of these sizes
abbrev pub sum_of : List ℕ → ℕ
sum_of [] = 0
sum_of (n ∷ ns) = n + sum_of ns

-- what is done of an input is within what one may hold, and a shard has a record
pub record CanGoOn (done : Done) : Type 0 where
  pub shards : done.shards ≤ done.records
  pub records : done.records ≤ 2 ^ 31
  pub bytes : done.bytes ≤ 2 ^ 40

-- Behind what of an input is done these bytes were read, perhaps to their end, and these records were given: the
-- ending isn't known yet; or each input that goes on with them there has these records there and this ending
abbrev pub IsFed : Done → Frame → FramerData → Option Ending → List ℕ → Bool → List (List ℕ) → Type 0
IsFed done frame framer None read over given =
    HasReadBehind done.bytes done.records frame full framer read given × (framer.ended ≡ None) × (over ≡ false)
IsFed done frame framer (Some e) read over given =
    ((input : List ℕ) → GoesOn read over input → IsCut frame full done.bytes done.records input given e)
    × (e ≡ Whole → over ≡ true)

-- nothing was read behind what of the input is done, and no record is at hand
pub record IsEmpty (frame : Frame) (most : ℕ) (done : Done) (intake : Intake) : Type 0 where
  pub fed : IsFed done frame intake.framer intake.ending [] false []
  pub more : intake.ending ≡ None
  pub round : intake.round ≡ record {
    records = no_records;
    shards = [];
    first_shard = done.shards;
    passed = done.passed;
  }
  pub first : intake.first ≡ done.records + 1
  pub closed : intake.closed ≡ 0
  pub limit : intake.most ≡ most

-- the round's shards are as before, and so is where its records begin
pub record KeepsRound (old new : Intake) : Type 0 where
  pub shards : new.round.shards ≡ old.round.shards
  pub first_shard : new.round.first_shard ≡ old.round.first_shard
  pub passed : new.round.passed ≡ old.round.passed
  pub first : new.first ≡ old.first
  pub closed : new.closed ≡ old.closed
  pub limit : new.most ≡ old.most

-- a piece was read, and records came after those at hand, which end where they do in each input that goes on so
pub record HasTaken (done : Done) (frame : Frame) (framer : FramerData) (ending : Option Ending)
    (before after : RecordsData) (read : List ℕ) (over : Bool)
    (given : List (List ℕ)) : Type 0 where
  pub added : List (List ℕ)
  pub gained : after.items ≡ before.items ++ added
  pub fed : IsFed done frame framer ending read over (given ++ added)
  pub ends : (rest : List ℕ) → GoesOn read over rest
      → EndSo done.bytes done.records frame full rest (length given) before after

-- the piece is taken in, whatever was read before it; an empty one is the end
abbrev pub TakesIn : Intake → Intake → List ℕ → Type 0
TakesIn old new piece = (done : Done) (frame : Frame) (read : List ℕ) (given : List (List ℕ))
    → HasReadBehind done.bytes done.records frame full old.framer read given → old.framer.ended ≡ None
    → HasTaken done frame new.framer new.ending old.round.records new.round.records (read ++ piece)
    (length piece == 0) given

-- a round has no more shards than so many
abbrev pub most_shards : ℕ
most_shards = 4096

-- a round of more than one shard has no more records than so many
abbrev pub most_records : ℕ
most_records = 2 ^ 20

-- nor have these more bytes than so many, without their lengths and newlines
abbrev pub most_bytes : ℕ
most_bytes = 2 ^ 26

-- the first n records, or their bytes, are more than a round of more than one shard may have
abbrev pub AreTooMany : List (List ℕ) → ℕ → Type 0
AreTooMany records n = (most_records < n) ⊎ (most_bytes < bytes_in (take n records))

-- the round is no larger than it may be. A single shard may have any size
pub record FitsRound (intake : Intake) : Type 0 where
  pub few : length intake.round.shards ≤ most_shards
  pub small : 1 < length intake.round.shards → ¬ AreTooMany intake.round.records.items intake.closed

-- the first n records at hand belong to the round's shards and to the next one, which has no end before the last of
-- them
pub record ReachesInto (intake : Intake) (n : ℕ) : Type 0 where
  pub within : (intake.closed ≤ n) × (n ≤ length intake.round.records.items)
  pub next : (m : ℕ) → m < n - intake.closed
      → ¬ IsFull intake.most (take m (drop intake.closed intake.round.records.items))

-- the next shard, as far as it is at hand, would make the round too large
pub record HasNoRoom (intake : Intake) : Type 0 where
  pub some : 0 < length intake.round.shards
  pub count : ℕ
  pub reaches : ReachesInto intake count
  pub many : AreTooMany intake.round.records.items count

-- the round is full: it has as many shards as it may, or it has a shard and no room for the next one
abbrev pub HasFullRound : Intake → Type 0
HasFullRound intake = (most_shards ≤ length intake.round.shards) ⊎ HasNoRoom intake

-- no more has to be read for the round: it is full, or the ending is known and all records are in closed shards
abbrev pub IsFilled : Intake → Type 0
IsFilled intake =
    HasFullRound intake ⊎ ((is_some intake.ending ≡ true) × (length intake.round.records.items ≤ intake.closed))

-- a piece is wanted: the ending isn't known, no further shard is at hand as a whole, and the round isn't full
pub record WantsPiece (intake : Intake) : Type 0 where
  pub unknown : intake.ending ≡ None
  pub part : MayGoOn intake.most (drop intake.closed intake.round.records.items)
  pub room : ¬ HasFullRound intake

-- the answer is whether a piece is wanted. If not, no more has to be read
abbrev pub IsAnswered : Intake → Bool → Type 0
IsAnswered intake true = WantsPiece intake
IsAnswered intake false = IsFilled intake

-- shards after those of the round were closed, and all else is as before
pub record Closes (old new : Intake) : Type 0 where
  pub sizes : List ℕ
  pub are : AreClosed old.most (is_some old.ending) (drop old.closed old.round.records.items) sizes
  pub shards : new.round.shards ≡ old.round.shards ++ ranges_of old.closed (old.first + old.closed) sizes
  pub fits : FitsRound old → FitsRound new
  pub closed : new.closed ≡ old.closed + sum_of sizes
  pub records : new.round.records ≡ old.round.records
  pub first_shard : new.round.first_shard ≡ old.round.first_shard
  pub passed : new.round.passed ≡ old.round.passed
  pub first : new.first ≡ old.first
  pub framer : new.framer ≡ old.framer
  pub ending : new.ending ≡ old.ending
  pub limit : new.most ≡ old.most

-- after the shards that are closed, of whose records so many were passed over
abbrev pub moved_on : ℕ → Intake → Intake
moved_on passed intake = record {
  framer = intake.framer;
  ending = intake.ending;
  round = record {
    records = later_of intake.closed intake.round.records;
    shards = [];
    first_shard = intake.round.first_shard + length intake.round.shards;
    passed = intake.round.passed + passed;
  };
  first = intake.first + intake.closed;
  closed = 0;
  most = intake.most;
}

-- what is done of the input once the round is, of whose records so many were passed over
abbrev pub done_with : ℕ → Intake → Done
done_with passed intake = record {
  shards = intake.round.first_shard + length intake.round.shards;
  records = intake.first - 1 + intake.closed;
  bytes = get_or intake.round.records.ends (intake.closed - 1) 0;
  passed = intake.round.passed + passed;
}

-- the ending, where no shard is left to be run
abbrev pub end_of : Intake → Option Ending
end_of intake = if length intake.round.shards == 0 then intake.ending else None
