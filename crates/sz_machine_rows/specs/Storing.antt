-- Stores of values whose parts are at hand.
use Rattle.std.specs.Prelude.{ℕ, List, Option}
use Rattle.sz_types.specs.declared.place.Place.{Place}
use Rattle.sz_value.specs.Data.{Datum}
use Rattle.sz_instr.specs.declared.step.Step.{Step}
use Rattle.sz_world_rules.specs.Slots.{slot_at}
use Rattle.sz_world_rules.specs.Stores.{unless_outside}
use Rattle.sz_instr.specs.States.{State, After}
use Rattle.sz_instr.specs.Rows.{after_store}
use Rattle.sz_machine_cells.specs.Storing.{replaced_by}

-- the local holds what came of such a store into it, or there is a fault
abbrev pub stores_values : Option ℕ → List Step → List Datum → Datum → ℕ → Place → State → After
stores_values counting steps indexes new n place s =
    after_store counting (unless_outside (replaced_by steps indexes new (slot_at s.locals n))) place n s s.stack
