-- How the statics of a program are run.
use Rattle.std.proofs.Common.{◌≡◌, ℕ, ◌^◌, ◌≤◌, List, sym, ap, ◌∙◌}
use Rattle.sz_instr.specs.declared.code.Code.{Code}
use Rattle.sz_world_rules.specs.World.{Outcome}
use Rattle.sz_world_rules.specs.Slots.{Slot}
use Rattle.sz_world_rules.specs.Typed.{AllFit}
use Rattle.sz_mean.specs.Marked.{Marked}
use Rattle.sz_mean.specs.Programs.{statics}
use Rattle.sz_instr.specs.Runs.{StaticsRunTo}
use Rattle.sz_value.specs.declared.slots.Slots.{Slots}
use Rattle.sz_machine.specs.declared.ends.StaticsEnd.{StaticsEnd}
use Rattle.sz_machine.specs.declared.ends.StaticsEnd.TheVariants as statics_ends
use Rattle.sz_machine.specs.Ends.{seen_statics_end, StaticsRunEnds}
use Rattle.sz_gen_rules.specs.Simulates.{static_types}
use Rattle.sz_gen_rules.specs.Compiled.{IsCompiled}

-- what the code does is what the program means
module _ (program : Marked) (code : Code) (compiled : IsCompiled program code) (budget : ℕ) (least : 1 ≤ budget) (most : budget ≤ 2 ^ 32) where
  pub statics_run : StaticsRunTo code budget (statics program budget)
  statics_run = compiled.simulates.statics_end budget (record { least = least; most = most })

  pub statics_run_ends : StaticsRunEnds code budget
  statics_run_ends = record { outcome = statics program budget; ends = statics_run }

  -- the statics that come of the run have their types
  pub statics_have_types : (end : StaticsEnd) (slots : Slots) → ((o : Outcome (List Slot)) → StaticsRunTo code budget o → seen_statics_end end ≡ o)
      → end ≡ statics_ends.Done slots → AllFit slots (static_types program.core)
  statics_have_types end slots runs is =
      compiled.statics_fit budget slots (sym (sym (ap seen_statics_end is) ∙ runs (statics program budget) statics_run))
