-- What a program means for records of which some may fault: what the others emit, and which fault.
use Rattle.std.specs.Prelude.{ℕ, suc, List, [], ◌∷◌, ◌++◌}
use Rattle.sz_tabs.specs.Data.{EmitDatum}
use Rattle.sz_world_rules.specs.World.{Fault, Outcome, Done, Faulted}
use Rattle.sz_mean.specs.Programs.{mean}
use Rattle.sz_attempt.specs.declared.job.Job.{Job}

-- a record that faults: its number in the input, counted from 1, and its fault
pub record Faulting : Type 0 where
  pub number : ℕ
  pub fault : Fault

-- what comes of records: the emits of those that don't fault, and those that fault, both in order
pub record Yield : Type 0 where
  pub emits : List EmitDatum
  pub faults : List Faulting

-- what comes of records, and then of further ones
abbrev pub both : Yield → Yield → Yield
both front rest = record { emits = front.emits ++ rest.emits; faults = front.faults ++ rest.faults }

-- what comes of the record with this number. One that faults has no emits
abbrev pub yield_of : ℕ → Outcome (List EmitDatum) → Yield
yield_of number (Done emits) = record { emits = emits; faults = [] }
yield_of number (Faulted fault) = record { emits = []; faults = record { number = number; fault = fault } ∷ [] }

-- what comes of records, of which the first has this number
abbrev pub means : Job → ℕ → List (List ℕ) → Yield
means job number [] = record { emits = []; faults = [] }
means job number (record_bytes ∷ rest) =
    both (yield_of number (mean job.compiled job.statics job.budget record_bytes)) (means job (suc number) rest)
