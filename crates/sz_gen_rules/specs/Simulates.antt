-- What it is that code does what a program means.
use Rattle.std.specs.Prelude.{ℕ, ◌≤◌, ◌^◌, List, map}
use Rattle.sz_types.specs.Data.{Shape}
use Rattle.sz_core.specs.Programs.{Static, Core, statics_of}
use Rattle.sz_instr.specs.declared.code.Code.{Code}
use Rattle.sz_world_rules.specs.Slots.{Slot}
use Rattle.sz_world_rules.specs.Typed.{AllFit}
use Rattle.sz_mean.specs.Marked.{Marked}
use Rattle.sz_mean.specs.Programs.{statics, mean}
use Rattle.sz_instr.specs.Runs.{RunsTo, StaticsRunTo}

-- the budget is one that a run can have
pub record IsBudget (budget : ℕ) : Type 0 where
  pub least : 1 ≤ budget
  pub most : budget ≤ 2 ^ 32

-- the types of a program's statics
abbrev pub static_types : Core → List Shape
static_types core = map (λ (s : Static). s.type) (statics_of core.items)

-- the code simulates the program: with each budget its statics end as the program's do, and with each budget, all
-- slots of the types of the statics and each record its run ends as the program means it, with the same emits, or
-- with the same kind of fault at the same place
pub record Simulates (program : Marked) (code : Code) : Type 0 where
  pub statics_end : (budget : ℕ) → IsBudget budget → StaticsRunTo code budget (statics program budget)
  pub records_end : (slots : List Slot) (budget : ℕ) (input : List ℕ) → AllFit slots (static_types program.core)
      → IsBudget budget → RunsTo code input slots budget (mean program slots budget input)
