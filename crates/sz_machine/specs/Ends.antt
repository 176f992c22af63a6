-- How runs end.
use Rattle.std.specs.Prelude.{ℕ, List}
use Rattle.sz_tabs.specs.Data.{EmitDatum}
use Rattle.sz_instr.specs.declared.code.Code.{Code}
use Rattle.sz_world_rules.specs.World.{Outcome, Done, Faulted}
use Rattle.sz_world_rules.specs.World as world
use Rattle.sz_world_rules.specs.Slots.{Slot}
use Rattle.sz_instr.specs.Runs.{RunsTo, StaticsRunTo}
use Rattle.sz_machine.specs.declared.ends.Fault.{Fault}
use Rattle.sz_machine.specs.declared.ends.RunEnd.{RunEnd}
use Rattle.sz_machine.specs.declared.ends.RunEnd.TheVariants as record_ends
use Rattle.sz_machine.specs.declared.ends.StaticsEnd.{StaticsEnd}
use Rattle.sz_machine.specs.declared.ends.StaticsEnd.TheVariants as statics_ends

-- the plain data of a fault
abbrev pub seen_fault : Fault → world.Fault
seen_fault f = record { kind = f.kind; place = f.place }

-- the plain data of how a run for a record ends
abbrev pub seen_end : RunEnd → Outcome (List EmitDatum)
seen_end (record_ends.Done emits) = Done emits
seen_end (record_ends.Fault fault) = Faulted (seen_fault fault)

-- the plain data of how the run of the statics ends
abbrev pub seen_statics_end : StaticsEnd → Outcome (List Slot)
seen_statics_end (statics_ends.Done slots) = Done slots
seen_statics_end (statics_ends.Fault fault) = Faulted (seen_fault fault)

-- the run for a record ends: it is never stuck
pub record RunEnds (code : Code) (input : List ℕ) (statics : List Slot) (budget : ℕ) : Type 0 where
  pub outcome : Outcome (List EmitDatum)
  pub ends : RunsTo code input statics budget outcome

-- the run of the statics ends
pub record StaticsRunEnds (code : Code) (budget : ℕ) : Type 0 where
  pub outcome : Outcome (List Slot)
  pub ends : StaticsRunTo code budget outcome
