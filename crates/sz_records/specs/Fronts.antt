-- What the code finds where a record begins.
use Rattle.std.specs.Prelude.{ℕ, ◌-◌, ◌<◌, ◌≤◌, List, take, drop}
use Rattle.sz_records.specs.declared.record_at.Front.{Front}
use Rattle.sz_records.specs.declared.record_at.Front.TheVariants as fronts
use Rattle.sz_records.specs.Cutting.{Standing, record_of, stopped, unfinished}

-- what was found in these bytes
abbrev pub standing_in : List ℕ → Front → Standing
standing_in bytes (fronts.Record from to size) = record_of (take (to - from) (drop from bytes)) size
standing_in bytes (fronts.Stopped why) = stopped why
standing_in bytes fronts.Unfinished = unfinished

-- a record that was found lies in these bytes, and takes some of them that the input may still have
abbrev pub IsWithin : ℕ → ℕ → Front → Type 0
IsWithin room len (fronts.Record from to size) = (from ≤ to) × (to ≤ size) × (0 < size) × (size ≤ len) × (size ≤ room)
IsWithin room len (fronts.Stopped why) = Unit {0}
IsWithin room len fronts.Unfinished = Unit {0}

-- a record that was found has room among those that there may be
abbrev pub IsCounted : ℕ → ℕ → Front → Type 0
IsCounted n most (fronts.Record from to size) = n < most
IsCounted n most (fronts.Stopped why) = Unit {0}
IsCounted n most fronts.Unfinished = Unit {0}
