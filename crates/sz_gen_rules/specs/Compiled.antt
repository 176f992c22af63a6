-- What it is that code is that of a program.
use Rattle.std.specs.Prelude.{◌≡◌, ℕ, List, true}
use Rattle.sz_instr.specs.declared.code.Code.{Code}
use Rattle.sz_instr.specs.WellFormed.{is_well_formed}
use Rattle.sz_world_rules.specs.World.{Done}
use Rattle.sz_world_rules.specs.Slots.{Slot}
use Rattle.sz_world_rules.specs.Typed.{AllFit}
use Rattle.sz_mean.specs.Marked.{Marked, all_tables}
use Rattle.sz_mean.specs.Programs.{statics}
use Rattle.sz_gen_rules.specs.Simulates.{static_types, Simulates}

-- the code does what the program means; it is well formed, its tables are those of the program, with that of lines
-- where it is ignoring, and the statics that the program means have their types, so that the code can run with them
pub record IsCompiled (program : Marked) (code : Code) : Type 0 where
  pub simulates : Simulates program code
  pub formed : is_well_formed code ≡ true
  pub tables : code.tables ≡ all_tables program
  pub statics_fit : (budget : ℕ) (slots : List Slot) → statics program budget ≡ Done slots
      → AllFit slots (static_types program.core)
